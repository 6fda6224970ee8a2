-- Which rows and reports are made for a model.
use Rattle.std.specs.Prelude.{◌≡◌, ◌*◌, length}
use Rattle.mj_types.specs.declared.model.Model.{Model}
use Rattle.mj_types.specs.declared.rows.Rows.{Rows}
use Rattle.mj_types.specs.declared.rows.StepReport.{StepReport}
use Rattle.mj_types.specs.Problems.{ForcesRoom, CertRoom}

pub record RowsRoom (m : Model) (x : Rows) : Type 0 where
  pub list : x.list.most ≡ m.njmax
  pub jac : x.jac.most ≡ m.njmax * m.nv
  pub row : length x.row ≡ m.nv
  pub reduced : length x.reduced ≡ m.nv

pub record ReportRoom (m : Model) (x : StepReport) : Type 0 where
  pub format : x.format ≡ m.format
  pub accel : length x.accel ≡ m.nv
  pub rows : x.rows.most ≡ m.njmax
  pub forces : ForcesRoom m.njmax m.nv x.forces
  pub cert : CertRoom m.njmax x.cert
