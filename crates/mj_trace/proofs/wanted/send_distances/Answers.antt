use Rattle.std.proofs.Common.{refl}
use Rattle.mj_io.proofs.Sent.{sent-then}
use Rattle.mj_trace.proofs.wanted.send_distances.Goals as goal

pub returns : goal.returns
returns g c = sent-then (sent-then (sent-then (sent-then c.send.ensures.sent c.send_signed.ensures.sent refl) c.send-2.ensures.sent refl) c.send_wide.ensures.sent refl) c.send-3.ensures.sent refl
