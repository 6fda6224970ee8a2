use Rattle.std.proofs.Common.{◌≡◌, ◌*ℤ◌, unsigned_abs, rules, arith, ap}
use Rattle.mj_quat.specs.Rotation.{round}
use Rattle.mj_quat.proofs.RotationLaws.{round_product-le}
use Rattle.mj_quat.proofs.products.round_product.Goals as goal

pub returns-clause-size : goal.returns-clause-size
returns-clause-size c =
    let v : c.rounded_product.result.mid ≡ round (c.args.a.now.mid *ℤ c.args.b.now.mid) = search rules in
    omega (arith, ap unsigned_abs v, round_product-le c.args.a.now.mid c.args.b.now.mid c.requires.b)
