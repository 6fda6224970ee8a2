use Rattle.std.proofs.Common.{◌+◌, ◌^◌, arith, sym, subst}
use Rattle.fx_vec.specs.Quaternions.{quaternion}
use Rattle.fx_vec.specs.Views.{mids}
use Rattle.fx_vec.specs.declared.vector.Q4.{Q4}
use Rattle.fx_vec.proofs.Bounds.{within-le}
use Rattle.mj_quat.specs.Rotation.{IsUnit}
use Rattle.mj_kin.proofs.joints.turned.Goals as goal

pub returns-clause-unit : goal.returns-clause-unit
returns-clause-unit c =
    let P = λ (q : Q4). IsUnit (quaternion q) in
    subst P (sym c.hung.ensures.quat) c.in_ok-quat.ensures.unit

pub returns-clause-linear : goal.returns-clause-linear
returns-clause-linear c limit h =
    within-le (mids c.hung.result.pos) (limit + 2 ^ 44 + 2 ^ 44) (limit + 2 ^ 46) (c.hung.ensures.linear (limit + 2 ^ 44) h) (omega arith)
