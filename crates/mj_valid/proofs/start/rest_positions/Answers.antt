use Rattle.mj_layout.proofs.PlaceLaws.{joined-start, joined-grow}
use Rattle.mj_valid.proofs.start.rest_positions.Goals as goal

pub loop-j-init : goal.loop-j-init
loop-j-init c = joined-start _ _ c.new-out.ensures.items

pub loop-j-preserved : goal.loop-j-preserved
loop-j-preserved c = joined-grow _ _ _ _ c.loop-j.invariant c.in_ok-add_rest_at.ensures
