-- A row of the dual whose diagonal entry of A = G G^T is known: its regularizer and its right side, and the first of them that is out of
-- range. MuJoCo documentation, Computation, constraint model; scales, rounding and ranges are this project's own.
use Rattle.std.specs.Prelude.{◌≡◌, ℕ, ◌^◌, ℤ, ◌-ℤ◌, ◌*ℤ◌, List, Option, Some, None}
use Rattle.fx_whole.specs.First.{or_first}
use Rattle.fx_whole.specs.Nearest.{nearest}
use Rattle.fx_whole.specs.Sums.{sum_to}
use Rattle.fx_num.specs.declared.number.Number.{Number}
use Rattle.mj_types.specs.declared.dual.DualRow.{DualRow}
use Rattle.mj_types.specs.declared.model.Model.{Model}
use Rattle.mj_types.specs.declared.parts.Soft.{Soft}
use Rattle.mj_types.specs.declared.range.OutOfRange.{OutOfRange}
use Rattle.mj_types.specs.declared.range.Quantity.{Quantity}
use Rattle.mj_types.specs.declared.range.Quantity.TheVariants as kind
use Rattle.mj_types.specs.declared.rows.Row.{Row}
use Rattle.mj_types.specs.declared.state.State.{State}
use Rattle.mj_types.specs.Duals.{MayBeSolved}
use Rattle.mj_types.specs.Parts.{number_at, plain}
use Rattle.mj_types.specs.Ranges.{limited}
use Rattle.mj_imp.specs.Impedance.{one, impedance}
use Rattle.mj_imp.specs.Reference.{reference, reference_over}
use Rattle.mj_dual.specs.Products.{along}

-- ---- the velocity of a state, and its acceleration without constraints
pub record Motion : Type 0 where
  pub dofs : ℕ
  pub velocity : ℕ → ℤ
  pub smooth : ℕ → ℤ

abbrev pub motion : Model → State → List (Number (Unit {0}) 32) → Motion
motion m s smooth = record { dofs = m.nv; velocity = number_at s.v; smooth = number_at smooth }

-- ---- of the constraint with the Jacobian j, the softness s and the violation r
-- A_ii (1 - d) / d, at the impedance d
abbrev pub regularizer : ℤ → ℤ → ℤ
regularizer diag d = nearest (diag *ℤ (one -ℤ d)) d

-- the acceleration that it asks for, at the impedance d
abbrev pub wanted : Motion → Soft → ℤ → ℤ → (ℕ → ℤ) → ℤ
wanted x s d r j = reference s d r (along x.dofs j x.velocity)

-- J a less that
abbrev pub right_side : Motion → Soft → ℤ → ℤ → (ℕ → ℤ) → ℤ
right_side x s d r j = along x.dofs j x.smooth -ℤ wanted x s d r j

-- ---- the first number out of range, named by the number of the constraint's row
-- one of this kind, whatever is named below
abbrev pub of_row : {F : Type 0} → Quantity → ℕ → Option F → Option OutOfRange
of_row what row None = None
of_row what row (Some fault) = Some (record { kind = what; index = row })

abbrev pub wanted_fault : ℕ → Motion → Soft → ℤ → ℤ → (ℕ → ℤ) → Option OutOfRange
wanted_fault row x s d r j =
    or_first (limited kind.Reference row (2 ^ 54) (along x.dofs j x.velocity))
    (of_row kind.Reference row (reference_over s d r (along x.dofs j x.velocity)))

abbrev pub right_side_fault : ℕ → Motion → Soft → ℤ → ℤ → (ℕ → ℤ) → Option OutOfRange
right_side_fault row x s d r j =
    or_first (limited kind.DualVector row (2 ^ 56) (along x.dofs j x.smooth))
    (limited kind.DualVector row (2 ^ 56) (right_side x s d r j))

abbrev pub active_fault_at : ℤ → ℕ → Motion → ℤ → Soft → ℤ → (ℕ → ℤ) → Option OutOfRange
active_fault_at d row x diag s r j =
    or_first (limited kind.Regularizer row (2 ^ 72) (regularizer diag d))
    (or_first (wanted_fault row x s d r j) (right_side_fault row x s d r j))

abbrev pub active_fault : ℕ → Motion → ℤ → Soft → ℤ → (ℕ → ℤ) → Option OutOfRange
active_fault row x diag s r j = active_fault_at (impedance s r) row x diag s r j

-- ---- its row
-- what the dual holds of it, by its number, its diagonal entry and its Jacobian
abbrev pub active_entry_at : ℤ → ℕ → Motion → ℤ → Row → (ℕ → ℤ) → DualRow
active_entry_at d row x diag c j = record {
  place = row;
  diag = record { raw = diag };
  r = record { raw = regularizer diag d };
  b = plain (right_side x c.soft d c.r.mid j);
  low = c.low;
  high = c.high;
}

abbrev pub active_entry : ℕ → Motion → ℤ → Row → (ℕ → ℤ) → DualRow
active_entry row x diag c j = active_entry_at (impedance c.soft c.r.mid) row x diag c j

-- a solver may take it, with numbers of which this is the sum of squares
abbrev pub MayBeSolvedBy : ℤ → DualRow → Type 0
MayBeSolvedBy diag row = (nv : ℕ) (g : List (Number (Unit {0}) 24)) → diag ≡ sum_to nv (λ k. number_at g k *ℤ number_at g k) → MayBeSolved nv g row
