use Rattle.std.proofs.Common.{◌≡◌, ◌≤ℤ◌, rules, arith, sym, subst}
use Rattle.std.proofs.lemmas.Int.{ints}
use Rattle.mj_quat.specs.Rotation.{quaternion, quaternion_length, unit_quaternion, IsUnit}
use Rattle.mj_quat.proofs.LengthLaws.{unit_quaternion-unit}
use Rattle.mj_quat.proofs.lengths.renorm.Goals as goal

pub returns-then-is_inside-clause-unit : goal.returns-then-is_inside-clause-unit
returns-then-is_inside-clause-unit c h =
    let q = quaternion c.args.q.now in
    let v : quaternion c.quaternion_over.result ≡ unit_quaternion q = search rules in
    let l : c.args.least ≤ℤ quaternion_length q = search rules in
    subst IsUnit (sym v) (unit_quaternion-unit q (omega (arith, ints, h, l)))
