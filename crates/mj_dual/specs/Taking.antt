-- While rows are taken one after another into the list and the dual.
use Rattle.std.specs.Prelude.{◌≡◌, ℕ, ◌+◌, ◌*◌, ◌^◌, ◌<◌, ◌≤◌, ℤ, unsigned_abs, List, length, ◌++◌, Option, Some, None}
use Rattle.fx_whole.specs.First.{first_to}
use Rattle.fx_num.specs.declared.number.Number.{Number}
use Rattle.mj_types.specs.declared.carriers.Factor.{Factor}
use Rattle.mj_types.specs.declared.dual.Dual.{Dual}
use Rattle.mj_types.specs.declared.dual.DualRow.{DualRow}
use Rattle.mj_types.specs.declared.model.Model.{Model}
use Rattle.mj_types.specs.declared.range.OutOfRange.{OutOfRange}
use Rattle.mj_types.specs.declared.rows.Rows.{Rows}
use Rattle.mj_types.specs.declared.state.State.{State}
use Rattle.mj_types.specs.Parts.{number_at}
use Rattle.mj_types.specs.Problems.{HasRoom, IsSolvable}
use Rattle.mj_types.specs.RowRooms.{RowsRoom}
use Rattle.mj_types.specs.States.{Fits}
use Rattle.mj_factor.specs.Solves.{HasRoots}
use Rattle.mj_factor.specs.Stored.{IsFactor}
use Rattle.mj_rows.specs.Constraint.{Constraint}
use Rattle.mj_dual.specs.Reductions.{Dynamics}
use Rattle.mj_dual.specs.Entries.{HasEntries, IsPushed}
use Rattle.mj_dual.specs.Assembly.{constraint, constraint_fault, row_list, is_active, entry_at_place, HasJacobians}

-- ---- what rows can be reduced with: a state of the model, the factor of its mass matrix, and an acceleration
pub record HasDynamics (m : Model) (s : State) (f : Factor) (smooth : List (Number (Unit {0}) 32)) : Type 0 where
  pub fits : Fits m s
  pub factor : IsFactor m f
  pub width : length smooth ≡ m.nv
  pub small : (k : ℕ) → k < m.nv → unsigned_abs (number_at smooth k) ≤ 2 ^ 56

-- ---- where rows can be taken: there is room, a solver takes the dual as it is, the roots of the factor's pivots are held, and no more rows are in the dual than in the list
pub record CanTake (m : Model) (pivot : ℕ → ℤ) (rows : Rows) (d : Dual) : Type 0 where
  pub list_room : RowsRoom m rows
  pub dual_room : HasRoom m.njmax m.nv d
  pub solvable : IsSolvable d
  pub roots : HasRoots pivot rows.row
  pub whole : length rows.jac.list ≡ length rows.list.list * m.nv
  pub few : d.m ≤ length rows.list.list

-- ---- the constraints that were taken
pub record HasTaken (m : Model) (y : Dynamics) (cs : List Constraint) (rows : Rows) (d : Dual) : Type 0 where
  pub listed : rows.list.list ≡ row_list y cs
  pub jacobians : HasJacobians m.nv cs rows.jac.list
  pub entries : HasEntries m.nv (length cs) (is_active y cs) (entry_at_place y cs) d

-- their first fault, where there are `start` rows before them
abbrev pub faults_from : ℕ → Dynamics → List Constraint → Option OutOfRange
faults_from start y cs = first_to (length cs) (λ i. constraint_fault (start + i + 1) y (constraint cs i))

-- ---- a call that takes these constraints after others, or answers their first fault
pub record HasAdded (m : Model) (y : Dynamics) (part : List Constraint) (fault : Option OutOfRange) (rows rows' : Rows) (d d' : Dual) : Type 0 where
  pub open_ : CanTake m y.pivot rows' d'
  pub first : fault ≡ faults_from (length rows.list.list) y part
  pub count : fault ≡ None → length rows'.list.list ≡ length rows.list.list + length part
  pub taken : fault ≡ None → (cs : List Constraint) → HasTaken m y cs rows d → HasTaken m y (cs ++ part) rows' d'

-- ---- a row's entry, where it has one, is held behind the others
abbrev pub IsHeld : Option DualRow → List (Number (Unit {0}) 24) → Dual → Dual → Type 0
IsHeld None g old new = new ≡ old
IsHeld (Some row) g old new = IsPushed g row old new
