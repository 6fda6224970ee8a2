-- The sums of the cost of a dual's forces that have a limit. The limits are this project's own.
use Rattle.std.specs.Prelude.{◌≡◌, ℕ, ◌+◌, ◌*◌, ◌^◌, ◌≤◌, ℤ, pos, Option}
use Rattle.fx_whole.specs.First.{or_first}
use Rattle.mj_optimum.specs.Problem.{Problem}
use Rattle.mj_optimum.specs.Limits.{cost_limit, weight_to, pull_to}
use Rattle.mj_types.specs.declared.range.OutOfRange.{OutOfRange}
use Rattle.mj_types.specs.declared.range.Quantity.TheVariants as kind
use Rattle.mj_types.specs.Ranges.{limited}

-- the first number past its limit in the two sums of the cost of f, up to and with row i; `place` numbers the rows
unfoldable pub cost_fault : Problem → (ℕ → ℕ) → (ℕ → ℤ) → ℕ → Option OutOfRange
cost_fault p place f i =
    or_first (limited kind.Cost (place i) cost_limit (pos (weight_to p f (i + 1))))
    (limited kind.Cost (place i) cost_limit (pos (pull_to p f (i + 1))))

-- the sums of the cost of the rows before n, the second of them over 2^37, each within its limit
pub record AreSums (p : Problem) (f : ℕ → ℤ) (n w t : ℕ) : Type 0 where
  pub weight : w ≡ weight_to p f n
  pub weight_small : w ≤ cost_limit
  pub pull : 2 ^ 37 * t ≡ pull_to p f n
  pub pull_small : t ≤ 2 ^ 87
