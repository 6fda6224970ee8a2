use Rattle.std.proofs.Common.{subst}
use Rattle.mj_quat.specs.Rotation as rotation
use Rattle.mj_kin.proofs.skipping.matrix_beside.Goals as goal

pub returns-then-is_same-clause-sharp : goal.returns-then-is_same-clause-sharp
returns-then-is_same-clause-sharp c u = c.args.frame.now.sharp (subst rotation.IsUnit (c.is_same.ensures c.if-is_same.true) u)
