use Rattle.std.proofs.Common.{refl}
use Rattle.mj_io.proofs.Sent.{sent-then}
use Rattle.mj_io.proofs.page.turn.Goals as goal

pub returns : goal.returns
returns g c = sent-then c.flush.ensures.sent c.begin.ensures refl
