-- A constraint of a state before it is reduced to a row of the dual, and the first number of it that is out of range. MuJoCo
-- documentation, Computation, constraints; scales, limits and the order of faults are this project's own.
use Rattle.std.specs.Prelude.{ℕ, ◌^◌, Bool, ◌&&◌, ℤ, pos, Option, None, Some}
use Rattle.fx_whole.specs.First.{or_first, first_to}
use Rattle.fx_num.specs.declared.number.Number.{Number}
use Rattle.fx_vec.specs.Vectors.{Triple}
use Rattle.mj_types.specs.declared.parts.Soft.{Soft}
use Rattle.mj_types.specs.declared.range.OutOfRange.{OutOfRange}
use Rattle.mj_types.specs.declared.range.Quantity.TheVariants as kind
use Rattle.mj_types.specs.declared.rows.Row.{Row}
use Rattle.mj_types.specs.declared.rows.Source.{Source}
use Rattle.mj_types.specs.declared.rows.Source.TheVariants as source
use Rattle.mj_types.specs.Parts.{plain}
use Rattle.mj_types.specs.Ranges.{is_within, unless, limited}

-- how far it is violated, how soft it is, and the least and the greatest force, at scale 20, where there are such; how each dof moves
-- it, and for a contact how each dof moves the point where two geoms meet
pub record Constraint : Type 0 where
  pub source : Source
  pub r : ℤ
  pub soft : Soft
  pub low : Option ℤ
  pub high : Option ℤ
  pub lever : ℕ → Triple ℤ
  pub jacobian : ℕ → ℤ

-- no point moves
abbrev pub no_lever : ℕ → Triple ℤ
no_lever d = record { x = pos 0; y = pos 0; z = pos 0 }

-- one that pushes, and never pulls
abbrev pub pushing : Source → ℤ → Soft → (ℕ → Triple ℤ) → (ℕ → ℤ) → Constraint
pushing from violation soft_ lever_ slope = record {
  source = from;
  r = violation;
  soft = soft_;
  low = Some (pos 0);
  high = None;
  lever = lever_;
  jacobian = slope;
}

-- ---- its row, which is idle or not
abbrev pub force : Option ℤ → Option (Number (Unit {0}) 20)
force None = None
force (Some f) = Some (plain f)

abbrev pub row_of : Bool → Constraint → Row
row_of idle c = record { source = c.source; r = plain c.r; soft = c.soft; idle = idle; low = force c.low; high = force c.high }

-- ---- its first number out of range, by the row's number: the violation of an equality; of each dof the lever's velocity; of each dof
-- the Jacobian
abbrev pub violation_fault : Source → ℕ → ℤ → Option OutOfRange
violation_fault (source.Low j) number r = None
violation_fault (source.High j) number r = None
violation_fault (source.TendonLow t) number r = None
violation_fault (source.TendonHigh t) number r = None
violation_fault (source.Contact k edge) number r = None
violation_fault (source.Equality e) number r = limited kind.Violation number (2 ^ 53) r
violation_fault (source.Friction j) number r = None

abbrev pub is_near : Triple ℤ → Bool
is_near v = is_within (2 ^ 48) v.x && (is_within (2 ^ 48) v.y && is_within (2 ^ 48) v.z)

abbrev pub levers_fault : ℕ → ℕ → (ℕ → Triple ℤ) → Option OutOfRange
levers_fault nv number lever = first_to nv (λ d. unless (is_near (lever d)) kind.Jacobian number)

abbrev pub jacobian_fault : ℕ → ℕ → (ℕ → ℤ) → Option OutOfRange
jacobian_fault nv number jacobian = first_to nv (λ d. limited kind.Jacobian number (2 ^ 48) (jacobian d))

-- of a model with nv dofs
abbrev pub row_fault : ℕ → ℕ → Constraint → Option OutOfRange
row_fault nv number c =
    or_first (violation_fault c.source number c.r) (or_first (levers_fault nv number c.lever) (jacobian_fault nv number c.jacobian))
