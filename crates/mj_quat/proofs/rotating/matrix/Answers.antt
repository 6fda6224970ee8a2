use Rattle.std.proofs.Common.{◌+◌, ◌^◌, sym, subst}
use Rattle.fx_vec.specs.Sizes.{Within}
use Rattle.mj_quat.specs.Rotation.{quaternion}
use Rattle.mj_quat.proofs.RotationLaws.{matrix-sharp}
use Rattle.mj_quat.proofs.rotating.matrix.Goals as goal

pub returns-clause-sharp : goal.returns-clause-sharp
returns-clause-sharp c u =
    let m = matrix-sharp (quaternion c.args.q.now) u in
    record {
      x = subst (λ r. Within r (2 ^ 32 + 16)) (sym c.row_x.ensures.value) m.x;
      y = subst (λ r. Within r (2 ^ 32 + 16)) (sym c.row_y.ensures.value) m.y;
      z = subst (λ r. Within r (2 ^ 32 + 16)) (sym c.row_z.ensures.value) m.z;
    }
