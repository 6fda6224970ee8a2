use Rattle.fx_whole.specs.Joined.{joined}
use Rattle.mj_io.specs.Sent.{Sent}
use Rattle.mj_types.specs.Parts.{number_at}
use Rattle.mj_types.specs.StepValues.{dual_values}
use Rattle.mj_trace.specs.Wanted.{row_force_text}
use Rattle.mj_trace.proofs.wanted.send_row_forces.Given as goal

abbrev pub invariant-loop-i : goal.invariant-loop-i
invariant-loop-i g l = record {
  sent : Sent g.S.Sink.holds g.S.Sink.faults l.initial.sink l.initial.page (joined l.i (row_force_text (dual_values l.dual).place (number_at l.inverse.x))) l.sink l.page;
}
