use Rattle.std.proofs.Common.{refl}
use Rattle.mj_io.proofs.Sent.{sent-then}
use Rattle.mj_gen.specs.Chain.{motor_text}
use Rattle.mj_gen.proofs.chain.send_motor.Goals as goal

pub returns : goal.returns
unfolding motor_text
returns g c = sent-then c.send_named.ensures c.send.ensures.sent refl
