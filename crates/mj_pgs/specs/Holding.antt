-- What a solver keeps from one row to the next.
use Rattle.std.specs.Prelude.{◌≡◌, ℕ, ◌+◌, ◌*◌, ◌^◌, ◌<◌, ◌≤◌, ℤ, pos, ◌+ℤ◌, ◌-ℤ◌, ◌*ℤ◌, unsigned_abs, List, length, slice_index_or, Option}
use Rattle.fx_num.specs.declared.number.Number.{Number}
use Rattle.fx_whole.specs.declared.reciprocal.Divisor.{Divisor}
use Rattle.mj_optimum.specs.Cost.{gradient, reach}
use Rattle.mj_optimum.specs.Problem.{Problem}
use Rattle.mj_optimum.specs.Sweep.{change, divisor, update}
use Rattle.mj_optimum.specs.Limits.{reach_limit}
use Rattle.mj_types.specs.declared.range.OutOfRange.{OutOfRange}
use Rattle.mj_types.specs.declared.range.Quantity.TheVariants as kind
use Rattle.mj_types.specs.Ranges.{limited}
use Rattle.mj_types.specs.declared.dual.Dual.{Dual}
use Rattle.mj_types.specs.declared.dual.Forces.{Forces}
use Rattle.mj_types.specs.Parts.{number_at}
use Rattle.mj_types.specs.Problems.{IsSolvable, problem, forces}

-- forces with room for a dual's rows and dofs
pub record HasPlaces (d : Dual) (x : Forces) : Type 0 where
  pub f : d.m ≤ length x.f
  pub u : d.nv ≤ length x.u
  pub divisor : d.m ≤ length x.divisor
  pub used : d.m ≤ length x.used

-- forces of the same lengths
pub record HaveSamePlaces (old new : Forces) : Type 0 where
  pub f : length new.f ≡ length old.f
  pub u : length new.u ≡ length old.u
  pub divisor : length new.divisor ≡ length old.divisor
  pub used : length new.used ≡ length old.used

-- what is prepared for row i: its divisor, and past how many of its numbers there are none but 0
pub record IsReady (d : Dual) (x : Forces) (i : ℕ) : Type 0 where
  pub divisor : (e : Divisor) → (slice_index_or x.divisor i e).d ≡ divisor (problem d) i
  pub used_room : slice_index_or x.used i 0 ≤ d.nv
  pub unused : (k : ℕ) → slice_index_or x.used i 0 ≤ k → k < d.nv → (problem d).g i k ≡ pos 0

-- between two rows: the dual is one that a solver takes, all is prepared, u = G^T f, and the forces and u are within their limits
pub record IsHeld (d : Dual) (x : Forces) : Type 0 where
  pub solvable : IsSolvable d
  pub places : HasPlaces d x
  pub ready : (i : ℕ) → i < d.m → IsReady d x i
  pub reached : (k : ℕ) → k < d.nv → number_at x.u k ≡ reach (problem d) (forces x) k
  pub small : (i : ℕ) → i < d.m → unsigned_abs (forces x i) ≤ 2 ^ 50
  pub near : (k : ℕ) → k < d.nv → unsigned_abs (number_at x.u k) ≤ 2 ^ 59

-- u moved by a step along a row, at dof k
abbrev pub moved : {F G : ℕ} → List (Number (Unit {0}) F) → List (Number (Unit {0}) G) → ℤ → ℕ → ℤ
moved row u step k = number_at u k +ℤ number_at row k *ℤ step

-- the dofs before n were moved, and are within their limit
pub record IsShifted {F G : ℕ} (row : List (Number (Unit {0}) F)) (old new : List (Number (Unit {0}) G)) (step : ℤ) (n : ℕ) : Type 0 where
  pub here : (k : ℕ) → k < n → number_at new k ≡ moved row old step k
  pub past : (k : ℕ) → n ≤ k → number_at new k ≡ number_at old k
  pub near : (k : ℕ) → k < n → unsigned_abs (number_at new k) ≤ 2 ^ 59

-- the first of them past its limit
abbrev pub shift_fault : {F G : ℕ} → List (Number (Unit {0}) F) → List (Number (Unit {0}) G) → ℤ → ℕ → Option OutOfRange
shift_fault row u step k = limited kind.Reach (k + 1) reach_limit (moved row u step k)

-- what the update of row i changes the cost of f by
unfoldable pub change_at : Problem → (ℕ → ℤ) → ℕ → ℤ
change_at p f i = change (gradient p f i) (divisor p i) (update p f i -ℤ f i)
