use Rattle.std.proofs.Common.{◌≡◌, length, None}
use Rattle.fx_whole.specs.First.{first_to}
use Rattle.mj_kin.specs.Columns.{column, column_fault}
use Rattle.mj_kin.specs.Working.{AreColumns}
use Rattle.mj_kin.proofs.columns.finish_columns.Given as goal

abbrev pub invariant-loop-d : goal.invariant-loop-d
invariant-loop-d l = record {
  room : length l.columns ≡ l.model.nv;
  columns_ : AreColumns l.model l.state l.columns l.d;
  passed : first_to l.d (λ d. column_fault d (column l.model l.state d)) ≡ None;
}
