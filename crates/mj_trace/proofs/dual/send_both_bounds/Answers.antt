use Rattle.std.proofs.Common.{ap₂, ◌++◌, None}
use Rattle.mj_io.proofs.Sent.{sent-then}
use Rattle.mj_types.specs.Duals.{bound}
use Rattle.mj_trace.specs.Block.{bound_text}
use Rattle.mj_trace.proofs.dual.send_both_bounds.Goals as goal

pub returns : goal.returns
returns g c =
    sent-then c.send_bound.ensures c.send_bound-2.ensures
    (ap₂ (λ a b. bound_text (bound a) ++ bound_text (bound b)) (c.entry.ensures None) (c.entry-2.ensures None))
