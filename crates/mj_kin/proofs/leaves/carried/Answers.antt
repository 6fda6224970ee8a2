use Rattle.std.proofs.Common.{◌≡◌, ℤ, ◌+◌, ◌*◌, ◌^◌, sym, subst, arith}
use Rattle.fx_vec.specs.Vectors.{Triple}
use Rattle.fx_vec.specs.Sizes.{Within}
use Rattle.fx_vec.specs.Quaternions.{quaternion}
use Rattle.mj_quat.specs.Rotation.{rotate, rotate_by}
use Rattle.mj_kin.proofs.RotationLaws.{rotate-within}
use Rattle.fx_vec.specs.Views.{mids}
use Rattle.fx_vec.proofs.Bounds.{within-le}
use Rattle.mj_kin.proofs.leaves.carried.Goals as goal

pub returns-clause-size : goal.returns-clause-size
returns-clause-size c =
    within-le (mids c.plus.result) (2 ^ 53 + 24 * 2 ^ 42) (2 ^ 54)
    (c.plus.ensures.linear (2 ^ 53) (24 * 2 ^ 42) c.requires.frame (c.rotated.ensures.size (2 ^ 42) c.requires.x)) (omega arith)

pub returns-clause-body : goal.returns-clause-body
returns-clause-body c h =
    let q = quaternion c.args.frame.now.quat in
    let P = λ (rows : Triple (Triple ℤ)). mids c.rotated.result ≡ rotate_by rows (mids c.args.x.now) in
    let e : mids c.rotated.result ≡ rotate q (mids c.args.x.now) = subst P c.args.frame.now.formed c.rotated.ensures.value in
    let Q = λ (v : Triple ℤ). Within v (12 * 2 ^ 42) in
    c.plus.ensures.linear (2 ^ 44) (12 * 2 ^ 42) h (subst Q (sym e) (rotate-within q (mids c.args.x.now) (2 ^ 42) c.args.frame.now.small c.requires.x))

pub returns-clause-linear : goal.returns-clause-linear
returns-clause-linear c limit h u =
    c.plus.ensures.linear limit (2 ^ 44) h (c.rotated.ensures.near (c.args.frame.now.sharp u) c.requires.x)
