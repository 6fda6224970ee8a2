use Rattle.std.proofs.Common.{◌≡◌, unsigned_abs, rules, arith, ap}
use Rattle.fx_vec.specs.Settling.{along}
use Rattle.fx_vec.specs.Views.{mids}
use Rattle.fx_vec.proofs.Bounds.{along-le}
use Rattle.mj_quat.proofs.RotationLaws.{along-sharp}
use Rattle.mj_quat.proofs.products.round_dot.Goals as goal

pub returns-clause-size : goal.returns-clause-size
returns-clause-size c limit h =
    let v : c.round.result.mid ≡ along (mids c.args.row.now) (mids c.args.v.now) = search rules in
    omega (arith, ap unsigned_abs v, along-le (mids c.args.row.now) (mids c.args.v.now) limit 8 c.requires.row h)

pub returns-clause-sharp : goal.returns-clause-sharp
returns-clause-sharp c limit h k =
    let v : c.round.result.mid ≡ along (mids c.args.row.now) (mids c.args.v.now) = search rules in
    omega (arith, ap unsigned_abs v, along-sharp (mids c.args.row.now) (mids c.args.v.now) limit h k)
