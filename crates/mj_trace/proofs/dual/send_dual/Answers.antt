use Rattle.std.proofs.Common.{refl}
use Rattle.mj_io.proofs.Sent.{sent-then}
use Rattle.mj_trace.specs.Block.{problem_text}
use Rattle.mj_trace.proofs.dual.send_dual.Goals as goal

pub returns : goal.returns
unfolding problem_text
returns g c = sent-then c.send_dual_head.ensures c.send_dual_rows.ensures refl
