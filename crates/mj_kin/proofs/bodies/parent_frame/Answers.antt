use Rattle.std.proofs.Common.{ap, ◌∙◌}
use Rattle.mj_types.specs.declared.parts.Body.{Body}
use Rattle.mj_kin.specs.Poses.{pose}
use Rattle.mj_kin.proofs.PlaceLaws.{listed-is}
use Rattle.mj_kin.proofs.bodies.parent_frame.Goals as goal

pub returns-then-parent-b-clause-pose : goal.returns-then-parent-b-clause-pose
returns-then-parent-b-clause-pose c =
    let m = c.args.model.now in
    let s = c.args.state.now in
    let x = c.body_at.result.now in
    c.frame_of.ensures.pose
    ∙ listed-is m s c.args.pos.now c.args.quat.now c.args.b x.parent c.requires.posed c.body_at.ensures.parent
    ∙ ap (λ (y : Body). pose m s y.parent) c.body_at.ensures.value
