-- Projected Gauss-Seidel: sweeps over the rows, each of which moves one force to its best place, rounded and clamped. MuJoCo documentation, Computation chapter (PGS); the rounding is this project's own.
use Rattle.std.specs.Prelude.{ℕ, zero, suc, ◌==◌, ℤ, pos, ◌+ℤ◌, ◌-ℤ◌, ◌*ℤ◌, neg_ℤ, ◌<ℤ◌, ◌≤ℤ◌, int_lt, cond, Option, Some, None}
use Rattle.fx_whole.specs.Sums.{sum_to}
use Rattle.fx_whole.specs.Nearest.{nearest}
use Rattle.mj_optimum.specs.Problem.{Problem}
use Rattle.mj_optimum.specs.Cost.{cost, gradient}

-- the low bound where x is below it, and the high one where x is above it
abbrev pub at_least : Option ℤ → ℤ → ℤ
at_least None x = x
at_least (Some low) x = cond (int_lt x low) low x

abbrev pub at_most : Option ℤ → ℤ → ℤ
at_most None x = x
at_most (Some high) x = cond (int_lt high x) high x

abbrev pub clamp : Option ℤ → Option ℤ → ℤ → ℤ
clamp low high x = at_most high (at_least low x)

-- A_ii + R_i: row i of the quadratic's diagonal
abbrev pub divisor : Problem → ℕ → ℤ
divisor p i = sum_to p.nv (λ k. p.g i k *ℤ p.g i k) +ℤ p.r i

-- from the force x along a slope: the nearest step to the least cost, clamped
unfoldable pub next_force : Option ℤ → Option ℤ → ℤ → ℤ → ℤ → ℤ
next_force low high d x slope = clamp low high (x +ℤ nearest (neg_ℤ slope) d)

abbrev pub update : Problem → (ℕ → ℤ) → ℕ → ℤ
update p f i = next_force (p.low i) (p.high i) (divisor p i) (f i) (gradient p f i)

-- f, but for x at i
abbrev pub put_at : (ℕ → ℤ) → ℕ → ℤ → ℕ → ℤ
put_at f i x j = cond (j == i) x (f j)

-- the forces after row i was updated
abbrev pub after_update : Problem → (ℕ → ℤ) → ℕ → ℕ → ℤ
after_update p f i = put_at f i (update p f i)

-- the forces after the rows below n were updated in their order, each from the forces as they then stand
abbrev pub pass : Problem → (ℕ → ℤ) → ℕ → ℕ → ℤ
pass p f zero = f
pass p f (suc n) = after_update p (pass p f n) n

abbrev pub sweep : Problem → (ℕ → ℤ) → ℕ → ℤ
sweep p f = pass p f p.m

-- the forces after s sweeps from 0
unfoldable pub iterate : Problem → ℕ → ℕ → ℤ
iterate p zero = λ i. pos 0
iterate p (suc s) = sweep p (iterate p s)

-- by how much sweep s + 1 lowers the cost
abbrev pub drop_of : Problem → ℕ → ℤ
drop_of p s = cost p (iterate p s) (pos 1) -ℤ cost p (iterate p (suc s)) (pos 1)

-- by how much the cost grows where one force changes by c, along a slope and a row of the diagonal
abbrev pub change : ℤ → ℤ → ℤ → ℤ
change slope d c = c *ℤ (slope +ℤ slope +ℤ d *ℤ c)

-- by how much the update of row i changes it, in a sweep from f
abbrev pub row_change : Problem → (ℕ → ℤ) → ℕ → ℤ
row_change p f i = change (gradient p (pass p f i) i) (divisor p i) (update p (pass p f i) i -ℤ pass p f i i)

-- the step c goes no further than the step q, and not the other way
pub record LiesBetween (q c : ℤ) : Type 0 where
  pub up : pos 0 <ℤ c → c ≤ℤ q
  pub down : c <ℤ pos 0 → q ≤ℤ c
