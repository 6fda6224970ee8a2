use Rattle.std.proofs.Common.{refl}
use Rattle.mj_trace.proofs.Joining.{sent-as}
use Rattle.mj_gen.proofs.chain.send_place.Goals as goal

pub returns-then-i-eq1 : goal.returns-then-i-eq1
returns-then-i-eq1 g c = sent-as (rw c.if-i-eq1.true refl) c.send.ensures.sent
