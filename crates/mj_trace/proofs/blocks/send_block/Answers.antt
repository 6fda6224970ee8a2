use Rattle.std.proofs.Common.{refl}
use Rattle.mj_io.proofs.Sent.{sent-then}
use Rattle.mj_trace.specs.Block.{block_text}
use Rattle.mj_trace.proofs.blocks.send_block.Goals as goal

pub returns : goal.returns
unfolding block_text
returns g c = record { sent = sent-then (sent-then c.send_motion.ensures c.send_constraints.ensures refl) c.send_asked.ensures refl }
