use Rattle.std.proofs.Common.{refl}
use Rattle.mj_io.proofs.Sent.{sent-then}
use Rattle.mj_trace.proofs.rows.send_both_bounds.Goals as goal

pub returns : goal.returns
returns g c = sent-then (sent-then c.send.ensures.sent c.send_bound.ensures refl) c.send_bound-2.ensures refl
