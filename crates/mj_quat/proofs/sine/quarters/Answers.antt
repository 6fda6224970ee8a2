use Rattle.std.proofs.Common.{rules}
use Rattle.mj_quat.proofs.SineLaws.{quarters-unique}
use Rattle.mj_quat.proofs.sine.quarters.Goals as goal

pub returns-then-is_less_than_half-clause-value : goal.returns-then-is_less_than_half-clause-value
returns-then-is_less_than_half-clause-value c = quarters-unique c.args.angle.now _ (search rules)
