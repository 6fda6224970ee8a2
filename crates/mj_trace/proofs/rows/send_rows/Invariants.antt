use Rattle.std.specs.Prelude.{◌≡◌}
use Rattle.mj_io.specs.Sent.{Sent}
use Rattle.mj_types.specs.StepValues.{active_before}
use Rattle.mj_trace.specs.Reports.{report_row}
use Rattle.fx_whole.specs.Joined.{joined}
use Rattle.mj_trace.proofs.rows.send_rows.Given as goal

abbrev pub invariant-loop-i : goal.invariant-loop-i
invariant-loop-i g l = record {
  sent : Sent g.S.Sink.holds g.S.Sink.faults l.initial.sink l.initial.page (joined l.i (report_row l.report)) l.sink l.page;
  active : l.k ≡ active_before l.report.rows.list l.i;
}
