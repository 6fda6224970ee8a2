use Rattle.std.proofs.Common.{refl}
use Rattle.mj_io.proofs.Sent.{sent-then}
use Rattle.mj_gen.specs.Chain.{chain_text}
use Rattle.mj_gen.proofs.chain.send_chain.Goals as goal

pub returns : goal.returns
unfolding chain_text
returns g c = sent-then (sent-then c.send.ensures.sent c.send_links.ensures refl) c.send_motors.ensures refl
