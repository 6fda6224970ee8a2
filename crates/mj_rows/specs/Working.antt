-- What a call that writes a row leaves.
use Rattle.std.specs.Prelude.{◌≡◌, ℕ, ◌^◌, ◌≤◌, unsigned_abs, IsTrue, List, length}
use Rattle.fx_num.specs.declared.number.Number.{Number}
use Rattle.mj_types.specs.declared.rows.Row.{Row}
use Rattle.mj_types.specs.Duals.{bound, is_low, is_high}
use Rattle.mj_types.specs.Lawful.{IsSoft}
use Rattle.mj_types.specs.Parts.{number_at}
use Rattle.mj_rows.specs.Constraint.{Constraint}

-- a row that may be reduced: its softness is a model's, it isn't violated beyond all measure, and its bounds hold 0
pub record IsReady (x : Row) : Type 0 where
  pub soft : IsSoft x.soft
  pub small : unsigned_abs x.r.mid ≤ 2 ^ 56
  pub low_bound : IsTrue (is_low (bound x.low))
  pub high_bound : IsTrue (is_high (bound x.high))

-- a constraint's Jacobian is written, a number for each of nv dofs, and each is in its range
pub record IsWritten (nv : ℕ) (c : Constraint) (jacobian : List (Number (Unit {0}) 32)) : Type 0 where
  pub room : length jacobian ≡ nv
  pub whole : number_at jacobian ≡ c.jacobian
  pub small : (d : ℕ) → unsigned_abs (number_at jacobian d) ≤ 2 ^ 48
