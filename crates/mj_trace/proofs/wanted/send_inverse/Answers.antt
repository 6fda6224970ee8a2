use Rattle.std.proofs.Common.{refl}
use Rattle.mj_io.proofs.Sent.{sent-then}
use Rattle.mj_trace.specs.Wanted.{inverse_text}
use Rattle.mj_trace.proofs.wanted.send_inverse.Goals as goal

pub returns : goal.returns
unfolding inverse_text
returns g c = record { sent = sent-then c.send_distances.ensures c.send_row_forces.ensures refl }
