use Rattle.mj_io.specs.Sent.{Sent}
use Rattle.mj_types.specs.StepValues.{dual_values}
use Rattle.mj_trace.specs.Block.{dual_row_text}
use Rattle.fx_whole.specs.Joined.{joined}
use Rattle.mj_trace.proofs.dual.send_dual_rows.Given as goal

abbrev pub invariant-loop-i : goal.invariant-loop-i
invariant-loop-i g l = record {
  sent : Sent g.S.Sink.holds g.S.Sink.faults l.initial.sink l.initial.page (joined l.i (dual_row_text l.format (dual_values l.dual))) l.sink l.page;
}
