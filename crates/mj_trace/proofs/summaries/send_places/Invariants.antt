use Rattle.mj_io.specs.Sent.{Sent}
use Rattle.std.specs.Prelude.{◌++◌, codes}
use Rattle.fx_text.specs.Places.{decimal_text}
use Rattle.mj_types.specs.Parts.{number_at}
use Rattle.fx_whole.specs.Joined.{joined}
use Rattle.mj_trace.proofs.summaries.send_places.Given as goal

abbrev pub invariant-loop-i : goal.invariant-loop-i
invariant-loop-i g l = record {
  sent : Sent g.S.Sink.holds g.S.Sink.faults l.initial.sink l.initial.page (joined l.i (λ i. codes " " ++ decimal_text 9 (number_at l.xs i))) l.sink l.page;
}
