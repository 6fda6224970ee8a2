use Rattle.std.proofs.Common.{None}
use Rattle.fx_whole.specs.Joined.{joined}
use Rattle.mj_rows.specs.Limits.{joint_limits}
use Rattle.mj_dual.specs.Reductions.{dynamics}
use Rattle.mj_dual.specs.Taking.{HasAdded}
use Rattle.mj_dual.proofs.joints.take_joint_limits.Given as goal

abbrev pub invariant-loop-j : goal.invariant-loop-j
invariant-loop-j l = record {
  added : HasAdded l.model (dynamics l.model l.state l.factor l.smooth) (joined l.j (joint_limits l.model l.state)) None l.fn.rows l.rows l.fn.out l.out;
}
