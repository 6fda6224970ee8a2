use Rattle.std.proofs.Common.{arith}
use Rattle.mj_types.proofs.ModelLaws.{few_joints}
use Rattle.mj_rows.proofs.count.joint_count.Goals as goal

pub returns-clause-few : goal.returns-clause-few
returns-clause-few c = let h = few_joints c.args.model.now in omega (arith, h, c.len.ensures)
