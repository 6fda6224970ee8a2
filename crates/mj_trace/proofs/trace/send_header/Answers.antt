use Rattle.std.proofs.Common.{refl}
use Rattle.mj_io.proofs.Sent.{sent-then}
use Rattle.mj_trace.proofs.trace.send_header.Goals as goal

pub returns : goal.returns
returns g c = record { sent = sent-then (sent-then (sent-then (sent-then c.send_label.ensures c.send_counted.ensures refl) c.send_counted-2.ensures refl) c.send_label-2.ensures refl) c.send.ensures.sent refl }
