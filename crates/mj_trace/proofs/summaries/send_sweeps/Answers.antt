use Rattle.std.proofs.Common.{refl}
use Rattle.mj_io.proofs.Sent.{sent-then}
use Rattle.mj_trace.specs.Summaries.{sweeps_text}
use Rattle.mj_trace.proofs.summaries.send_sweeps.Goals as goal

pub returns : goal.returns
unfolding sweeps_text
returns g c = sent-then (sent-then (sent-then (sent-then c.send_sum.ensures c.send_sum-2.ensures refl) c.send_sum-3.ensures refl) c.send_sum-4.ensures refl) c.send.ensures.sent refl
