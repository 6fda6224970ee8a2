use Rattle.std.proofs.Common.{refl}
use Rattle.mj_io.proofs.Sent.{sent-then}
use Rattle.mj_trace.proofs.wanted.send_found.Goals as goal

pub returns : goal.returns
returns g c =
    let low = sent-then (sent-then c.send_label.ensures c.send.ensures.sent refl) c.send_signed.ensures.sent refl in
    sent-then (sent-then (sent-then low c.send-2.ensures.sent refl) c.send_wide.ensures.sent refl) c.send-3.ensures.sent refl
