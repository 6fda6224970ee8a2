use Rattle.std.proofs.Common.{refl}
use Rattle.mj_io.proofs.Sent.{sent-then}
use Rattle.mj_gen.specs.Chain.{link_text}
use Rattle.mj_gen.proofs.chain.send_link.Goals as goal

pub returns : goal.returns
unfolding link_text
returns g c = sent-then (sent-then (sent-then (sent-then c.send_named.ensures c.send_place.ensures refl) c.send_inertial.ensures refl) c.send_joint.ensures refl) c.send_geom.ensures refl
