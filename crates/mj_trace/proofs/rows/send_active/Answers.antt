use Rattle.std.proofs.Common.{refl}
use Rattle.mj_io.proofs.Sent.{sent-then}
use Rattle.mj_trace.proofs.rows.send_active.Goals as goal

pub returns : goal.returns
returns g c = sent-then c.send_force.ensures c.send_bounds.ensures refl
