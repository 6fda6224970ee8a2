use Rattle.std.proofs.Common.{◌+◌, ℕ, List, arith}
use Rattle.mj_gen.specs.Chain.{motor_text}
use Rattle.mj_trace.proofs.Joining.{sent-begun, sent-joined, sent-whole}
use Rattle.mj_gen.proofs.chain.send_motors.Goals as goal

abbrev motor : ℕ → List ℕ
motor k = motor_text (k + 1)

pub loop-k-init : goal.loop-k-init
loop-k-init g c = record { sent = sent-begun g.S.Sink.holds g.S.Sink.faults c.args.sink.now c.args.page.now motor }

pub loop-k-preserved : goal.loop-k-preserved
loop-k-preserved g c = record { sent = sent-joined c.loop-k.k motor c.loop-k.invariant.sent c.send_motor.ensures }

pub returns : goal.returns
returns g c = sent-whole c.loop-k.k c.args.links motor (omega arith) c.loop-k.invariant.sent
