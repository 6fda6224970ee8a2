use Rattle.std.proofs.Common.{arith}
use Rattle.mj_types.specs.Parts.{number_at}
use Rattle.mj_rows.specs.Limits.{tendon_limits}
use Rattle.mj_rows.proofs.CountLaws.{count_none, count_more}
use Rattle.mj_rows.proofs.count.tendon_limit_count.Goals as goal

pub loop-t-init : goal.loop-t-init
loop-t-init c = record { counted = count_none (tendon_limits c.args.model.now (number_at c.args.applied.now.length)); few = omega arith }

pub loop-t-preserved : goal.loop-t-preserved
loop-t-preserved c = record {
  counted = count_more c.loop-t.t c.loop-t.count c.limits_of_tendon-count.result (tendon_limits c.args.model.now (number_at c.args.applied.now.length)) c.loop-t.invariant.counted c.limits_of_tendon-count.ensures.value;
  few = omega (arith, c.loop-t.invariant.few, c.limits_of_tendon-count.ensures.few);
}
