use Rattle.std.proofs.Common.{refl}
use Rattle.mj_io.proofs.Sent.{sent-then}
use Rattle.mj_trace.proofs.dual.send_spaced_wide.Goals as goal

pub returns : goal.returns
returns g c = sent-then c.send.ensures.sent c.send_wide.ensures.sent refl
