use Rattle.mj_io.specs.Sent.{Sent}
use Rattle.mj_gen.specs.Tape.{fields_text}
use Rattle.mj_gen.proofs.tape.send_fields.Given as goal

abbrev pub invariant-loop-j : goal.invariant-loop-j
invariant-loop-j g l = record {
  sent : Sent g.S.Sink.holds g.S.Sink.faults l.initial.sink l.initial.page (fields_text l.seed l.j l.row) l.sink l.page;
}
