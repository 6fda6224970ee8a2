use Rattle.std.proofs.Common.{refl}
use Rattle.mj_io.proofs.Sent.{sent-then}
use Rattle.mj_gen.proofs.chain.send_mass.Goals as goal

pub returns : goal.returns
returns g c = sent-then c.send.ensures.sent c.send_six_digits.ensures refl
