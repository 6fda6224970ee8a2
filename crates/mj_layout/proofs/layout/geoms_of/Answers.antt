use Rattle.std.proofs.Common.{◌++◌, ap, ◌∙◌}
use Rattle.fx_whole.proofs.JoinedLaws.{grow-none, grow-more}
use Rattle.mj_layout.proofs.layout.geoms_of.Goals as goal

pub loop-b-init : goal.loop-b-init
loop-b-init c = grow-none _ _

pub loop-b-preserved : goal.loop-b-preserved
loop-b-preserved c = grow-more _ _ _ _ _ c.loop-b.invariant (c.in_ok-extend_from_slice.ensures.items ∙ ap (λ x. c.loop-b.all.items ++ x) c.part_geoms.ensures)
