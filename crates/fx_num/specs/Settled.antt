-- What a sum of products becomes when it is rounded to a lower scale, and when it is refused. A rule of this project's own.
use Rattle.std.specs.Prelude.{ℕ, ◌^◌, ℤ, pos, ◌+ℤ◌, ◌-ℤ◌, ◌*ℤ◌, unsigned_abs, Option}
use Rattle.fx_whole.specs.First.{or_first}
use Rattle.fx_whole.specs.Nearest.{nearest}
use Rattle.fx_num.specs.Radii.{radius_limit}
use Rattle.fx_num.specs.Refusals.{past}
use Rattle.fx_num.specs.declared.carry.Over.{Over}
use Rattle.fx_num.specs.declared.carry.Over.TheVariants.{Value, Radius}

-- a sum with one product more
abbrev pub product_sum : ℤ → ℤ → ℤ → ℤ
product_sum sum a b = sum +ℤ a *ℤ b

-- the sum divided by 2^shift and rounded
abbrev pub settled_mid : ℤ → ℕ → ℤ
settled_mid sum shift = nearest sum (pos (2 ^ shift))

-- what that rounding lost, in the unit of the sum
abbrev pub rounding_loss : ℤ → ℕ → ℕ
rounding_loss sum shift = unsigned_abs (sum -ℤ settled_mid sum shift *ℤ pos (2 ^ shift))

-- whether a value passes its limit
abbrev pub over_value : ℕ → ℤ → Option Over
over_value limit value = past limit (unsigned_abs value) Value

-- which limit a number with a radius passes: the value's first, and then the radius's
abbrev pub over : ℕ → ℤ → ℕ → Option Over
over limit value radius = or_first (over_value limit value) (past radius_limit radius Radius)
