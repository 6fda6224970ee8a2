use Rattle.mj_io.specs.Sent.{Sent}
use Rattle.mj_gen.specs.Chain.{motors_text}
use Rattle.mj_gen.proofs.chain.send_motors.Given as goal

abbrev pub invariant-loop-k : goal.invariant-loop-k
invariant-loop-k g l = record {
  sent : Sent g.S.Sink.holds g.S.Sink.faults l.initial.sink l.initial.page (motors_text l.k) l.sink l.page;
}
