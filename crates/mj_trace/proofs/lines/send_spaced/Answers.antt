use Rattle.std.proofs.Common.{refl}
use Rattle.mj_io.proofs.Sent.{sent-then}
use Rattle.mj_trace.proofs.lines.send_spaced.Goals as goal

pub returns : goal.returns
returns g c = sent-then c.send.ensures.sent c.send_signed.ensures.sent refl
