use Rattle.std.proofs.Common.{refl}
use Rattle.mj_io.proofs.Sent.{sent-then}
use Rattle.mj_trace.proofs.summaries.send_steps.Goals as goal

pub returns : goal.returns
returns g c = sent-then (sent-then c.send_label.ensures c.send_label-2.ensures refl) c.send.ensures.sent refl
