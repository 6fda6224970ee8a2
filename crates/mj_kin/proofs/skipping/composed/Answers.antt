use Rattle.std.proofs.Common.{sym}
use Rattle.fx_vec.specs.Quaternions.{quaternion}
use Rattle.mj_kin.proofs.RotationLaws.{product-unturned}
use Rattle.mj_kin.proofs.skipping.composed.Goals as goal

pub returns-then-is_unturned-clause-value : goal.returns-then-is_unturned-clause-value
returns-then-is_unturned-clause-value c =
    sym (product-unturned (quaternion c.args.a.now) (quaternion c.args.b.now) (c.is_unturned.ensures c.if-is_unturned.true))
