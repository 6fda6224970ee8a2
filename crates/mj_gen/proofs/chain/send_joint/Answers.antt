use Rattle.std.proofs.Common.{refl}
use Rattle.mj_io.proofs.Sent.{sent-then}
use Rattle.mj_gen.proofs.chain.send_joint.Goals as goal

pub returns : goal.returns
returns g c = sent-then (sent-then c.send_named.ensures c.send_axis.ensures refl) c.send.ensures.sent refl
