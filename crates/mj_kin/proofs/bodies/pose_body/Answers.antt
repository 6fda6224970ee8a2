use Rattle.std.proofs.Common.{ℕ, subst}
use Rattle.mj_kin.specs.Working.{AreMarked}
use Rattle.mj_kin.proofs.ModelLaws.{joints_end}
use Rattle.mj_kin.proofs.bodies.pose_body.Goals as goal

pub returns-clause-marked : goal.returns-clause-marked
returns-clause-marked c =
    let P : ℕ → Type 0 = λ n. AreMarked c.args.model.now c.args.state.now c.move_joints.new.anchors c.move_joints.new.directions n in
    subst P (joints_end c.args.model.now c.args.b c.requires.body) c.in_ok-frame.ensures.marked
