use Rattle.std.proofs.Common.{refl}
use Rattle.mj_io.proofs.Sent.{sent-then}
use Rattle.mj_trace.proofs.dual.send_dual_head.Goals as goal

pub returns : goal.returns
returns g c = sent-then (sent-then (sent-then c.send_counted.ensures c.send_counted-2.ensures refl) c.send_mark.ensures refl) c.send.ensures.sent refl
