use Rattle.std.proofs.Common.{refl}
use Rattle.mj_io.proofs.Sent.{sent-then}
use Rattle.mj_trace.proofs.lines.send_label_line.Goals as goal

pub returns : goal.returns
returns g c = sent-then c.send_label.ensures c.send.ensures.sent refl
