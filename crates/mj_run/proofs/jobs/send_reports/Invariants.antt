use Rattle.std.proofs.Common.{take, flat_map}
use Rattle.mj_io.specs.Sent.{Sent}
use Rattle.mj_run.specs.Batch.{held_report}
use Rattle.mj_run.proofs.jobs.send_reports.Given as goal

abbrev pub invariant-loop-i : goal.invariant-loop-i
invariant-loop-i g l = record {
  sent : Sent g.S.Sink.holds g.S.Sink.faults l.initial.sink l.initial.page (flat_map held_report (take l.i l.jobs)) l.sink l.page;
}
