use Rattle.std.proofs.Common.{◌++◌, ap, ◌∙◌}
use Rattle.mj_layout.proofs.PlaceLaws.{joined-start, joined-grow}
use Rattle.mj_layout.proofs.layout.joints_on.Goals as goal

pub loop-b-init : goal.loop-b-init
loop-b-init c = joined-start _ _ c.new-all.ensures.items

pub loop-b-preserved : goal.loop-b-preserved
loop-b-preserved c = joined-grow _ _ _ _ c.loop-b.invariant (c.in_ok-extend_from_slice.ensures.items ∙ ap (λ x. c.loop-b.all.items ++ x) c.part_joints.ensures)
