use Rattle.std.proofs.Common.{◌≡◌, ◌+◌, ◌*◌, ◌^◌, ◌<◌, length, None}
use Rattle.fx_whole.specs.First.{first_to}
use Rattle.fx_vec.specs.Quaternions.{quaternion}
use Rattle.fx_vec.specs.Sizes.{Within}
use Rattle.fx_vec.specs.Views.{mids}
use Rattle.mj_quat.specs.Rotation.{IsUnit}
use Rattle.mj_types.specs.Parts.{body}
use Rattle.mj_kin.specs.Poses.{pose_after, joint_fault}
use Rattle.mj_kin.specs.Working.{pose_of, AreMarked}
use Rattle.mj_kin.proofs.joints.move_joints.Given as goal

abbrev pub invariant-loop-i : goal.invariant-loop-i
invariant-loop-i l = record {
  pose_ : pose_of l.frame ≡ pose_after l.model l.state l.b l.i;
  unit : l.i < (body l.model.bodies l.b).jntnum → IsUnit (quaternion l.frame.quat);
  near : Within (mids l.frame.pos) (2 ^ 47 + l.i * 2 ^ 46);
  anchors_ : length l.anchors ≡ length l.initial.anchors;
  directions_ : length l.directions ≡ length l.initial.directions;
  marked : AreMarked l.model l.state l.anchors l.directions ((body l.model.bodies l.b).jntadr + l.i);
  passed : first_to l.i (joint_fault l.model l.state l.b) ≡ None;
}
