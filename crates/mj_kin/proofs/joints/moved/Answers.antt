use Rattle.std.proofs.Common.{◌≡◌, sym, subst}
use Rattle.fx_vec.specs.Quaternions.{quaternion}
use Rattle.fx_vec.specs.declared.vector.Q4.{Q4}
use Rattle.mj_types.specs.declared.parts.JointKind.{JointKind}
use Rattle.mj_quat.specs.Rotation.{IsUnit}
use Rattle.mj_types.specs.Parts.{number_at}
use Rattle.mj_kin.specs.Poses.{moved}
use Rattle.mj_kin.specs.Working.{pose_of}
use Rattle.mj_kin.proofs.joints.moved.Goals as goal

pub returns-in-Free-clause-pose : goal.returns-in-Free-clause-pose
returns-in-Free-clause-pose c =
    let P = λ (k : JointKind). pose_of c.free.result ≡ moved k c.args.joint.now (number_at c.args.state.now.q) (pose_of c.args.frame.now) in
    subst P (sym c.in-Free.is) (c.free.ensures.pose (pose_of c.args.frame.now))

pub returns-in-Ball-clause-linear : goal.returns-in-Ball-clause-linear
returns-in-Ball-clause-linear c limit l h k = c.turned.ensures.linear limit k

pub returns-in-Hinge-clause-linear : goal.returns-in-Hinge-clause-linear
returns-in-Hinge-clause-linear c limit l h k = c.turned-in-Hinge.ensures.linear limit k

pub returns-in-Slide-clause-unit : goal.returns-in-Slide-clause-unit
returns-in-Slide-clause-unit c e u =
    let P = λ (q : Q4). IsUnit (quaternion q) in
    subst P (sym c.slid.ensures.quat) u

pub returns-in-Slide-clause-linear : goal.returns-in-Slide-clause-linear
returns-in-Slide-clause-linear c limit l h k = c.slid.ensures.linear limit h
