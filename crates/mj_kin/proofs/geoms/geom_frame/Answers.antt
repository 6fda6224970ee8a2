use Rattle.std.proofs.Common.{◌≡◌, ◌+◌, length, ap, ◌∙◌}
use Rattle.std.proofs.lemmas.Result.{IfOk-weaker}
use Rattle.fx_vec.specs.Quaternions.{quaternion}
use Rattle.fx_vec.specs.Views.{mids}
use Rattle.mj_types.specs.declared.parts.Geom.{Geom}
use Rattle.mj_types.specs.declared.range.Quantity.TheVariants as kind
use Rattle.mj_kin.specs.declared.frame.Frame.{Frame}
use Rattle.mj_kin.specs.Poses.{Pose, pose, attached, norm_fault}
use Rattle.mj_kin.specs.Placings.{geom_pose}
use Rattle.mj_kin.specs.Working.{pose_of}
use Rattle.mj_kin.proofs.PlaceLaws.{listed-is, near-less}
use Rattle.mj_kin.proofs.geoms.geom_frame.Goals as goal

pub frame_of-body-requires-clause-near : goal.frame_of-body-requires-clause-near
frame_of-body-requires-clause-near c =
    near-less c.args.pos.now c.args.quat.now (length c.args.model.now.bodies) c.geom_at-geom.result.now.body c.requires.posed.near c.geom_at-geom.ensures.body

pub returns-clause-pose : goal.returns-clause-pose
returns-clause-pose c =
    let m = c.args.model.now in
    let s = c.args._state.now in
    let x = c.geom_at-geom.result.now in
    let P = λ (f : Frame). pose_of f ≡ attached (pose_of c.frame_of-body.result) (mids x.pos) (quaternion x.quat) in
    let Q = λ (f : Frame). pose_of f ≡ geom_pose m s c.args.g in
    IfOk-weaker c.attach.result P Q
    (λ f e. e
    ∙ ap (λ (p : Pose). attached p (mids x.pos) (quaternion x.quat)) (c.frame_of-body.ensures.pose ∙ listed-is m s c.args.pos.now c.args.quat.now (length m.bodies) x.body c.requires.posed c.geom_at-geom.ensures.body)
    ∙ ap (λ (y : Geom). attached (pose m s y.body) (mids y.pos) (quaternion y.quat)) c.geom_at-geom.ensures.value)
    c.attach.ensures.pose

pub returns-clause-first : goal.returns-clause-first
returns-clause-first c =
    let m = c.args.model.now in
    let s = c.args._state.now in
    let x = c.geom_at-geom.result.now in
    c.attach.ensures.first
    ∙ ap (λ (p : Pose). norm_fault kind.GeomNorm (c.args.g + 1) p.orientation (quaternion x.quat)) (c.frame_of-body.ensures.pose ∙ listed-is m s c.args.pos.now c.args.quat.now (length m.bodies) x.body c.requires.posed c.geom_at-geom.ensures.body)
    ∙ ap (λ (y : Geom). norm_fault kind.GeomNorm (c.args.g + 1) (pose m s y.body).orientation (quaternion y.quat)) c.geom_at-geom.ensures.value
