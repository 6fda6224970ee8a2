use Rattle.std.proofs.Common.{refl}
use Rattle.mj_io.proofs.Sent.{sent-then}
use Rattle.mj_trace.proofs.summaries.send_row_sums.Goals as goal

pub returns : goal.returns
returns g c = sent-then (sent-then c.send_sum.ensures c.send_sum-2.ensures refl) c.send.ensures.sent refl
