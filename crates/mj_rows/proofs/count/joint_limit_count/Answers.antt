use Rattle.std.proofs.Common.{arith}
use Rattle.mj_rows.specs.Limits.{joint_limits}
use Rattle.mj_rows.proofs.CountLaws.{count_none, count_more}
use Rattle.mj_rows.proofs.count.joint_limit_count.Goals as goal

pub loop-j-init : goal.loop-j-init
loop-j-init c = record { counted = count_none (joint_limits c.args.model.now c.args.state.now); few = omega arith }

pub loop-j-preserved : goal.loop-j-preserved
loop-j-preserved c = record {
  counted = count_more c.loop-j.j c.loop-j.count c.limits_of_joint-count.result (joint_limits c.args.model.now c.args.state.now) c.loop-j.invariant.counted c.limits_of_joint-count.ensures.value;
  few = omega (arith, c.loop-j.invariant.few, c.limits_of_joint-count.ensures.few);
}
