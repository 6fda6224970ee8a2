use Rattle.std.proofs.Common.{◌≡◌, ap, sym, ◌∙◌}
use Rattle.std.proofs.lemmas.Result.{IfOk-weaker}
use Rattle.mj_types.specs.declared.parts.Body.{Body}
use Rattle.mj_types.specs.Parts.{body}
use Rattle.mj_kin.specs.declared.frame.Frame.{Frame}
use Rattle.mj_kin.specs.Poses.{Pose, offset, parent_pose, pose_after}
use Rattle.mj_kin.specs.Working.{pose_of}
use Rattle.mj_kin.proofs.PoseLaws.{after-zero}
use Rattle.mj_kin.proofs.bodies.attach_body.Goals as goal

pub returns-clause-pose : goal.returns-clause-pose
returns-clause-pose c =
    let m = c.args.model.now in
    let s = c.args.state.now in
    let b = c.args.b in
    let x = c.body_at-body.result.now in
    let parent = parent_pose m s b in
    let P = λ (f : Frame). pose_of f ≡ offset x (pose_of c.parent_frame-parent.result) in
    let Q = λ (f : Frame). pose_of f ≡ pose_after m s b 0 in
    IfOk-weaker c.attach.result P Q
    (λ f e. e
    ∙ ap (λ (p : Pose). offset x p) c.parent_frame-parent.ensures.pose
    ∙ ap (λ (y : Body). offset y parent) c.body_at-body.ensures.value
    ∙ sym (after-zero m s b (offset (body m.bodies b) parent)))
    c.attach.ensures.pose
