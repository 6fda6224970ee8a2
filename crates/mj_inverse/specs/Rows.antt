-- The force of one row by itself: where the acceleration is known, the dual falls apart into its rows. Todorov, Convex and analytically-invertible dynamics with contacts and constraints, 2014; the rounding is this project's own.
use Rattle.std.specs.Prelude.{ℕ, ◌^◌, ℤ, pos, ◌-ℤ◌, ◌*ℤ◌, ◌<ℤ◌, ◌≤ℤ◌, unsigned_abs, ◌≤◌, Option}
use Rattle.fx_whole.specs.First.{or_first}
use Rattle.fx_whole.specs.Nearest.{nearest}
use Rattle.mj_dual.specs.Products.{along}
use Rattle.mj_optimum.specs.Feasible.{IsAbove, IsBelow}
use Rattle.mj_optimum.specs.Sweep.{clamp}
use Rattle.mj_types.specs.declared.range.OutOfRange.{OutOfRange}
use Rattle.mj_types.specs.declared.range.Quantity.TheVariants as kind
use Rattle.mj_types.specs.Ranges.{limited}

-- ---- a row of the regularizer r that pulls by w
-- its own cost of the force n / d, times d^2
abbrev pub row_cost : ℤ → ℤ → ℤ → ℤ → ℤ
row_cost r w n d = r *ℤ (n *ℤ n) -ℤ pos (2 ^ 37) *ℤ (w *ℤ (d *ℤ n))

-- the force of least cost, rounded and then clamped
abbrev pub row_force : Option ℤ → Option ℤ → ℤ → ℤ → ℤ
row_force low high r w = clamp low high (nearest (w *ℤ pos (2 ^ 36)) r)

-- every force n / d within the bounds that costs no more than x is within one unit of it
abbrev pub IsRowOptimum : Option ℤ → Option ℤ → ℤ → ℤ → ℤ → Type 0
IsRowOptimum low high r w x =
    (n d : ℤ) → pos 0 <ℤ d → IsAbove low n d → IsBelow high n d → row_cost r w n d ≤ℤ ((d *ℤ d) *ℤ row_cost r w x (pos 1))
    → unsigned_abs (n -ℤ d *ℤ x) ≤ unsigned_abs d

-- ---- a row of a step's dual
-- the accelerations of the step, without constraints and with them
pub record Motion : Type 0 where
  pub dofs : ℕ
  pub smooth : ℕ → ℤ
  pub accel : ℕ → ℤ

-- the row: its number in the list of rows, its Jacobian J, its right side b, its regularizer R and its bounds
pub record RowProblem : Type 0 where
  pub place : ℕ
  pub jacobian : ℕ → ℤ
  pub b : ℤ
  pub r : ℤ
  pub low : Option ℤ
  pub high : Option ℤ

-- J a, the acceleration that the step gives to it
abbrev pub rate : Motion → RowProblem → ℤ
rate y x = along y.dofs x.jacobian y.accel

-- what it pulls by: J a_smooth - b - J a
unfoldable pub pull : Motion → RowProblem → ℤ
pull y x = (along y.dofs x.jacobian y.smooth -ℤ x.b) -ℤ rate y x

-- its force by itself
abbrev pub separate : Motion → RowProblem → ℤ
separate y x = row_force x.low x.high x.r (pull y x)

-- its first number out of range
abbrev pub row_fault : Motion → RowProblem → Option OutOfRange
row_fault y x =
    or_first (limited kind.InverseRate x.place (2 ^ 56) (rate y x)) (limited kind.InverseForce x.place (2 ^ 50) (separate y x))
