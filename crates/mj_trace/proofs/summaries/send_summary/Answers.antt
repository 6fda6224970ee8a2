use Rattle.std.proofs.Common.{refl}
use Rattle.mj_io.proofs.Sent.{sent-then}
use Rattle.mj_trace.specs.Summaries.{summary_text}
use Rattle.mj_trace.proofs.summaries.send_summary.Goals as goal

pub returns : goal.returns
unfolding summary_text
returns g c = record { sent = sent-then (sent-then (sent-then (sent-then (sent-then (sent-then (sent-then c.send_steps.ensures c.send_end.ensures.sent refl) c.send_row_sums.ensures refl) c.send_sweeps.ensures refl) c.send_wide_line.ensures refl) c.send_wide_line-2.ensures refl) c.send_places_line.ensures refl) c.send_places_line-2.ensures refl }
