use Rattle.std.proofs.Common.{sym}
use Rattle.fx_vec.specs.Views.{mids}
use Rattle.mj_quat.specs.Rotation as rotation
use Rattle.mj_kin.proofs.RotationLaws.{rotate_by-nothing}
use Rattle.mj_kin.proofs.skipping.rotated.Goals as goal

pub returns-then-is_nothing-clause-value : goal.returns-then-is_nothing-clause-value
returns-then-is_nothing-clause-value c =
    sym (rotate_by-nothing (rotation.rows c.args.rows.now) (mids c.args.x.now) (c.is_nothing.ensures c.if-is_nothing.true))
