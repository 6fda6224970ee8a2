use Rattle.std.proofs.Common.{◌≡◌, ◌^◌, unsigned_abs, ap, arith, rules}
use Rattle.fx_vec.specs.Settling.{along}
use Rattle.fx_vec.specs.Views.{mids}
use Rattle.fx_vec.proofs.Bounds.{along-le}
use Rattle.fx_vec.proofs.plain.project.Goals as goal

pub returns-clause-size : goal.returns-clause-size
returns-clause-size c =
    let v : c.round.result.mid ≡ along (mids c.args.a.now) (mids c.args.d.now) = search rules in
    omega (arith, ap unsigned_abs v, along-le (mids c.args.a.now) (mids c.args.d.now) (2 ^ 58) 4 c.requires.a c.requires.d)

pub returns-clause-near : goal.returns-clause-near
returns-clause-near c h k =
    let v : c.round.result.mid ≡ along (mids c.args.a.now) (mids c.args.d.now) = search rules in
    omega (arith, ap unsigned_abs v, along-le (mids c.args.a.now) (mids c.args.d.now) (2 ^ 47) 2 h k)

pub returns-clause-linear : goal.returns-clause-linear
returns-clause-linear c l h k =
    let v : c.round.result.mid ≡ along (mids c.args.a.now) (mids c.args.d.now) = search rules in
    omega (arith, ap unsigned_abs v, along-le (mids c.args.a.now) (mids c.args.d.now) l 2 h k)
