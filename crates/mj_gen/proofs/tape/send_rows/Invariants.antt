use Rattle.mj_io.specs.Sent.{Sent}
use Rattle.mj_gen.specs.Tape.{tape_text}
use Rattle.mj_gen.proofs.tape.send_rows.Given as goal

abbrev pub invariant-loop-k : goal.invariant-loop-k
invariant-loop-k g l = record {
  sent : Sent g.S.Sink.holds g.S.Sink.faults l.initial.sink l.initial.page (tape_text l.seed l.k l.width) l.sink l.page;
}
