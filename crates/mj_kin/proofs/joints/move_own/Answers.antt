use Rattle.std.proofs.Common.{◌≡◌, ℕ, ◌+◌, ◌*◌, ◌^◌, ◌≤◌, length, false, ap, sym, subst, ◌∙◌, arith}
use Rattle.std.proofs.lemmas.Result.{IfOk-weaker}
use Rattle.fx_vec.specs.Sizes.{Within}
use Rattle.fx_vec.specs.Views.{mids}
use Rattle.fx_vec.proofs.Bounds.{within-le}
use Rattle.mj_types.specs.declared.parts.Joint.{Joint}
use Rattle.mj_types.specs.Lawful.{IsJoint, is_free}
use Rattle.mj_types.specs.Parts.{body, number_at, velocity_count}
use Rattle.mj_kin.specs.declared.frame.Frame.{Frame}
use Rattle.mj_kin.specs.Poses.{Pose, pose_after, before_joint, own_joint, moved, moved_fault}
use Rattle.mj_kin.specs.Working.{pose_of, HasPositions, AreMarked, MarksJoint}
use Rattle.mj_types.proofs.ModelLaws.{few_joints}
use Rattle.mj_kin.proofs.ModelLaws.{joint_there, positions_there, velocities_end, not_free}
use Rattle.mj_kin.proofs.PoseLaws.{pose_after-more, before-own}
use Rattle.mj_kin.proofs.MarkLaws.{marks_own}
use Rattle.mj_kin.proofs.ResultLaws.{if_ok_both}
use Rattle.mj_kin.proofs.joints.move_own.Goals as goal

pub move_joint-requires-clause-positions : goal.move_joint-requires-clause-positions
move_joint-requires-clause-positions c =
    let m = c.args.model.now in
    let P = λ (j : Joint). HasPositions c.args.state.now j in
    subst P (sym c.own_joint-joint.ensures) (positions_there m c.args.state.now c.requires.fits ((body m.bodies c.args.b).jntadr + c.args.i) (joint_there m c.args.b c.args.i c.requires.body c.requires.own))

pub move_joint-requires-clause-joint : goal.move_joint-requires-clause-joint
move_joint-requires-clause-joint c =
    let m = c.args.model.now in
    let P = λ (j : Joint). IsJoint j in
    subst P (sym c.own_joint-joint.ensures) (m.of_joints.each ((body m.bodies c.args.b).jntadr + c.args.i) (joint_there m c.args.b c.args.i c.requires.body c.requires.own))

pub move_joint-requires-clause-frame : goal.move_joint-requires-clause-frame
move_joint-requires-clause-frame c =
    let m = c.args.model.now in
    within-le (mids c.args.frame.now.pos) (2 ^ 47 + c.args.i * 2 ^ 46) (2 ^ 53) c.requires.near (omega (arith, few_joints m, joint_there m c.args.b c.args.i c.requires.body c.requires.own))

pub move_joint-requires-clause-directions : goal.move_joint-requires-clause-directions
move_joint-requires-clause-directions c =
    let m = c.args.model.now in
    let P = λ (j : Joint). j.dadr + velocity_count j.kind ≤ length c.args.directions.now in
    subst P (sym c.own_joint-joint.ensures)
    (omega (arith, velocities_end m ((body m.bodies c.args.b).jntadr + c.args.i) (joint_there m c.args.b c.args.i c.requires.body c.requires.own)))

pub returns-clause-pose : goal.returns-clause-pose
returns-clause-pose c =
    let m = c.args.model.now in
    let s = c.args.state.now in
    let q = number_at s.q in
    let jt = c.own_joint-joint.result.now in
    let P = λ (f : Frame). pose_of f ≡ moved jt.kind jt q (pose_of c.args.frame.now) in
    let Q = λ (f : Frame). pose_of f ≡ pose_after m s c.args.b (c.args.i + 1) in
    IfOk-weaker c.move_joint.result P Q
    (λ f e. e ∙ ap (λ (j : Joint). moved j.kind j q (pose_of c.args.frame.now)) c.own_joint-joint.ensures
    ∙ ap (λ (p : Pose). moved (own_joint m c.args.b c.args.i).kind (own_joint m c.args.b c.args.i) q p) c.requires.pose
    ∙ sym (pose_after-more m s c.args.b c.args.i))
    c.move_joint.ensures.pose

pub returns-clause-unit : goal.returns-clause-unit
returns-clause-unit c h =
    let P = λ (j : Joint). is_free j.kind ≡ false in
    c.move_joint.ensures.unit (subst P (sym c.own_joint-joint.ensures) (not_free c.args.model.now c.args.b c.args.i c.requires.body h))

pub returns-clause-near : goal.returns-clause-near
returns-clause-near c =
    let limit = 2 ^ 47 + c.args.i * 2 ^ 46 in
    let P = λ (f : Frame). Within (mids f.pos) (limit + 2 ^ 46) in
    let Q = λ (f : Frame). Within (mids f.pos) (2 ^ 47 + (c.args.i + 1) * 2 ^ 46) in
    IfOk-weaker c.move_joint.result P Q (λ f h. within-le (mids f.pos) (limit + 2 ^ 46) (2 ^ 47 + (c.args.i + 1) * 2 ^ 46) h (omega arith))
    (c.move_joint.ensures.linear limit (omega arith) c.requires.near)

pub returns-clause-marked : goal.returns-clause-marked
returns-clause-marked c =
    let m = c.args.model.now in
    let s = c.args.state.now in
    let q = number_at s.q in
    let b = c.args.b in
    let i = c.args.i in
    let j = (body m.bodies b).jntadr + i in
    let jt = c.own_joint-joint.result.now in
    let p = c.args.frame.now in
    let here : pose_of p ≡ before_joint m s j = c.requires.pose ∙ sym (before-own m s b i c.requires.body c.requires.own) in
    let a = c.args.anchors.now in
    let a' = c.move_joint.new.anchors in
    let d = c.args.directions.now in
    let d' = c.move_joint.new.directions in
    let P = λ (f : Frame). pose_of f ≡ moved jt.kind jt q (pose_of p) in
    let Q = λ (f : Frame). MarksJoint jt c.own_place-place.result (pose_of p) (pose_of f) a a' d d' in
    let R = λ (f : Frame). AreMarked m s a' d' ((body m.bodies b).jntadr + (i + 1)) in
    let same : j + 1 ≡ (body m.bodies b).jntadr + (i + 1) = omega arith in
    let upto : ℕ → Type 0 = λ n. AreMarked m s a' d' n in
    if_ok_both c.move_joint.result P Q R
    (λ f e new. subst upto same (marks_own m s j c.own_place-place.result jt (pose_of p) (pose_of f) a a' d d' (joint_there m b i c.requires.body c.requires.own) c.own_joint-joint.ensures c.own_place-place.ensures.place here e new c.requires.marked))
    c.move_joint.ensures.pose c.move_joint.ensures.marks

pub returns-clause-first : goal.returns-clause-first
returns-clause-first c =
    let m = c.args.model.now in
    let q = number_at c.args.state.now.q in
    let index = c.args.b + 1 in
    c.move_joint.ensures.first
    ∙ ap (λ (j : Joint). moved_fault index j.kind j q (pose_of c.args.frame.now)) c.own_joint-joint.ensures
    ∙ ap (λ (p : Pose). moved_fault index (own_joint m c.args.b c.args.i).kind (own_joint m c.args.b c.args.i) q p) c.requires.pose
