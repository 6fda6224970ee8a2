-- The dual of a list of constraints: the list of their rows, with which of them are idle, and the problem of those that aren't. MuJoCo
-- documentation, Computation chapter; scales, rounding and ranges are this project's own.
use Rattle.std.specs.Prelude.{◌≡◌, ℕ, ◌+◌, ◌*◌, ◌<◌, Bool, not, pos, List, length, map, slice_index_or, Option, None}
use Rattle.fx_whole.specs.First.{or_first, first_to}
use Rattle.fx_num.specs.declared.number.Number.{Number}
use Rattle.mj_types.specs.declared.model.Model.{Model}
use Rattle.mj_types.specs.declared.range.OutOfRange.{OutOfRange}
use Rattle.mj_types.specs.declared.rows.Row.{Row}
use Rattle.mj_types.specs.declared.rows.Source.TheVariants as source
use Rattle.mj_types.specs.Duals.{entry_at}
use Rattle.mj_types.specs.Parts.{no_soft}
use Rattle.mj_types.specs.StepValues.{DualValues}
use Rattle.mj_rows.specs.Constraint.{Constraint, no_lever, row_of, row_fault}
use Rattle.mj_rows.specs.Constraints.{constraints_fault}
use Rattle.mj_imp.specs.Impedance.{impedance}
use Rattle.mj_dual.specs.Actives.{regularizer, right_side}
use Rattle.mj_dual.specs.Reductions.{Dynamics, reduced, diagonal, is_idle, reduction_fault}
use Rattle.mj_dual.specs.Entries.{Entry, dual_from}

-- the constraint at a place
abbrev pub no_constraint : Constraint
no_constraint = record { source = source.Low 0; r = pos 0; soft = no_soft; low = None; high = None; lever = no_lever; jacobian = λ d. pos 0 }

abbrev pub constraint : List Constraint → ℕ → Constraint
constraint cs i = slice_index_or cs i no_constraint

-- ---- one constraint
abbrev pub is_left_out : Dynamics → Constraint → Bool
is_left_out y c = is_idle (diagonal y c.jacobian)

-- its row in the list, and what the dual holds of it
abbrev pub listed_row : Dynamics → Constraint → Row
listed_row y c = row_of (is_left_out y c) c

unfoldable pub entry_of : Dynamics → Constraint → Entry
entry_of y c = record {
  g = reduced y c.jacobian;
  r = regularizer (diagonal y c.jacobian) (impedance c.soft c.r);
  b = right_side y.motion c.soft (impedance c.soft c.r) c.r c.jacobian;
  low = c.low;
  high = c.high;
}

-- its first number out of range: before it is reduced, and then of the reduction
unfoldable pub constraint_fault : ℕ → Dynamics → Constraint → Option OutOfRange
constraint_fault number y c = or_first (row_fault y.motion.dofs number c) (reduction_fault number y c.soft c.r c.jacobian)

-- ---- all of them, whose rows are numbered from 1
abbrev pub row_list : Dynamics → List Constraint → List Row
row_list y cs = map (listed_row y) cs

abbrev pub is_active : Dynamics → List Constraint → ℕ → Bool
is_active y cs i = not (is_left_out y (constraint cs i))

abbrev pub entry_at_place : Dynamics → List Constraint → ℕ → Entry
entry_at_place y cs i = entry_of y (constraint cs i)

abbrev pub dual_of : Dynamics → List Constraint → DualValues
dual_of y cs = dual_from y.motion.dofs (length cs) (is_active y cs) (entry_at_place y cs)

-- a table of their Jacobians, row after row
pub record HasJacobians (nv : ℕ) (cs : List Constraint) (jac : List (Number (Unit {0}) 32)) : Type 0 where
  pub many : length jac ≡ length cs * nv
  pub each : (i k : ℕ) → i < length cs → k < nv → entry_at nv jac i k ≡ (constraint cs i).jacobian k

-- ---- the first number out of range: how many rows there are, and then row after row
abbrev pub rows_fault : Dynamics → List Constraint → Option OutOfRange
rows_fault y cs = first_to (length cs) (λ i. constraint_fault (i + 1) y (constraint cs i))

abbrev pub assembly_fault : Model → Dynamics → List Constraint → Option OutOfRange
assembly_fault m y cs = or_first (constraints_fault m cs) (rows_fault y cs)
