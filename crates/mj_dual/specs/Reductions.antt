-- A constraint's row in the dual: G = J L^-T D^-1/2, its diagonal entry, and what the dual holds of it, with the first number that is out of
-- range. MuJoCo documentation, Computation, constraint model; scales, rounding and ranges are this project's own.
use Rattle.std.specs.Prelude.{◌≡◌, ℕ, ◌^◌, ◌<◌, ℤ, pos, int_lt, Bool, cond, List, Option, Some, None}
use Rattle.fx_whole.specs.First.{or_first}
use Rattle.fx_num.specs.declared.number.Number.{Number}
use Rattle.mj_types.specs.declared.carriers.Factor.{Factor}
use Rattle.mj_types.specs.declared.dual.DualRow.{DualRow}
use Rattle.mj_types.specs.declared.model.Model.{Model}
use Rattle.mj_types.specs.declared.parts.Soft.{Soft}
use Rattle.mj_types.specs.declared.range.OutOfRange.{OutOfRange}
use Rattle.mj_types.specs.declared.range.Quantity.TheVariants as kind
use Rattle.mj_types.specs.declared.rows.Row.{Row}
use Rattle.mj_types.specs.declared.state.State.{State}
use Rattle.mj_types.specs.Forests.{above_in}
use Rattle.mj_types.specs.Parts.{number_at}
use Rattle.mj_types.specs.Ranges.{limited}
use Rattle.mj_factor.specs.Solves.{half, half_fault}
use Rattle.mj_factor.specs.Stored.{entry}
use Rattle.mj_dual.specs.Products.{square_sum}
use Rattle.mj_dual.specs.Actives.{Motion, motion, of_row, active_fault, active_entry}

-- ---- what constraints act on: the motion of a state, and the factor of its mass matrix, L and D
pub record Dynamics : Type 0 where
  pub motion : Motion
  pub lower : ℕ → ℕ → ℤ
  pub pivot : ℕ → ℤ

abbrev pub dynamics : Model → State → Factor → List (Number (Unit {0}) 32) → Dynamics
dynamics m s f smooth = record { motion = motion m s smooth; lower = entry (above_in m) f.l; pivot = number_at f.d }

-- ---- of the constraint with the Jacobian j
-- G
abbrev pub reduced : Dynamics → (ℕ → ℤ) → ℕ → ℤ
reduced y j = half y.motion.dofs y.lower y.pivot j

-- its entry in the diagonal of A = G G^T
abbrev pub diagonal : Dynamics → (ℕ → ℤ) → ℤ
diagonal y j = square_sum y.motion.dofs (reduced y j)

-- no dof moves it, or hardly: it is left out of the dual
abbrev pub is_idle : ℤ → Bool
is_idle diag = int_lt diag (pos (2 ^ 28))

-- what the dual holds of it, by the number of its row; none where it is idle
abbrev pub row_entry : ℕ → Dynamics → Row → (ℕ → ℤ) → Option DualRow
row_entry row y c j = cond (is_idle (diagonal y j)) None (Some (active_entry row y.motion (diagonal y j) c j))

-- ---- the first number out of range, by the number of its row; an idle row has none after its diagonal entry
abbrev pub reduced_fault : ℕ → Dynamics → (ℕ → ℤ) → Option OutOfRange
reduced_fault row y j = of_row kind.Reduced row (half_fault y.motion.dofs y.lower y.pivot j)

abbrev pub reduction_fault : ℕ → Dynamics → Soft → ℤ → (ℕ → ℤ) → Option OutOfRange
reduction_fault row y s r j =
    or_first (reduced_fault row y j)
    (or_first (limited kind.Regularizer row (2 ^ 72) (diagonal y j))
    (cond (is_idle (diagonal y j)) None (active_fault row y.motion (diagonal y j) s r j)))

-- ---- which numbers of the dynamics are read: those of the dofs, and of L those below the diagonal
pub record AreSame (y z : Dynamics) : Type 0 where
  pub dofs : y.motion.dofs ≡ z.motion.dofs
  pub lower : (k i : ℕ) → k < y.motion.dofs → i < k → y.lower k i ≡ z.lower k i
  pub pivot : (k : ℕ) → k < y.motion.dofs → y.pivot k ≡ z.pivot k
  pub velocity : (k : ℕ) → k < y.motion.dofs → y.motion.velocity k ≡ z.motion.velocity k
  pub smooth : (k : ℕ) → k < y.motion.dofs → y.motion.smooth k ≡ z.motion.smooth k
