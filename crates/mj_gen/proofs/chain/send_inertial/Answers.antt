use Rattle.std.proofs.Common.{refl}
use Rattle.mj_io.proofs.Sent.{sent-then}
use Rattle.mj_gen.proofs.chain.send_inertial.Goals as goal

pub returns : goal.returns
returns g c = sent-then (sent-then c.send.ensures.sent c.send_mass.ensures refl) c.send-2.ensures.sent refl
