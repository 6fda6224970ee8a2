use Rattle.std.proofs.Common.{◌≡◌, unsigned_abs, rules, sym, subst}
use Rattle.mj_quat.specs.Rotation.{quaternion, quaternion_length, WithinQuaternion}
use Rattle.mj_quat.proofs.LengthLaws.{quaternion_covered}
use Rattle.mj_quat.proofs.lengths.quaternion_length.Goals as goal

pub returns-clause-covers : goal.returns-clause-covers
unfolding quaternion_length
returns-clause-covers c =
    let q = quaternion c.args.q.now in
    let v : c.root.result.mid ≡ quaternion_length q = search rules in
    subst (λ s. WithinQuaternion q (unsigned_abs s)) (sym v) (quaternion_covered q)
