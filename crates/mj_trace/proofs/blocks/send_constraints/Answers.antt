use Rattle.std.proofs.Common.{refl}
use Rattle.mj_io.proofs.Sent.{sent-then}
use Rattle.mj_trace.specs.Block.{constraint_text}
use Rattle.mj_trace.proofs.blocks.send_constraints.Goals as goal

pub returns : goal.returns
unfolding constraint_text
returns g c = sent-then (sent-then (sent-then c.send_counts.ensures c.send_rows.ensures refl) c.send_stop.ensures refl) c.send_two_wide.ensures refl
