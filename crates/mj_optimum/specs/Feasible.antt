-- Which forces are feasible: each is within its row's bounds, of which either may be missing.
use Rattle.std.specs.Prelude.{ℕ, ◌<◌, ℤ, pos, ◌*ℤ◌, ◌≤ℤ◌, Option, Some, None}
use Rattle.mj_optimum.specs.Problem.{Problem}

-- n / d is at least the low bound, and at most the high one
abbrev pub IsAbove : Option ℤ → ℤ → ℤ → Type 0
IsAbove None n d = Unit {0}
IsAbove (Some low) n d = (d *ℤ low) ≤ℤ n

abbrev pub IsBelow : Option ℤ → ℤ → ℤ → Type 0
IsBelow None n d = Unit {0}
IsBelow (Some high) n d = n ≤ℤ (d *ℤ high)

-- the force n / d
pub record IsFeasible (p : Problem) (n : ℕ → ℤ) (d : ℤ) : Type 0 where
  pub above : (i : ℕ) → i < p.m → IsAbove (p.low i) (n i) d
  pub below : (i : ℕ) → i < p.m → IsBelow (p.high i) (n i) d

-- the force 0 is within the bounds: no low bound is above it, and no high one below
abbrev pub HoldsZero : Problem → Type 0
HoldsZero p = IsFeasible p (λ i. pos 0) (pos 1)
