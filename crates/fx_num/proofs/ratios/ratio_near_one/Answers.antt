use Rattle.std.proofs.Common.{◌≡◌, unsigned_abs, rules, arith, ap}
use Rattle.fx_num.specs.Scalars.{over}
use Rattle.fx_num.proofs.RatioLaws.{over-le}
use Rattle.fx_num.proofs.ratios.ratio_near_one.Goals as goal

pub returns-then-is_ratio-clause-size : goal.returns-then-is_ratio-clause-size
returns-then-is_ratio-clause-size c =
    let v : c.from_raw-near.result.mid ≡ over c.args.n.now.mid c.args.d.now.mid = search rules in
    omega (arith, ap unsigned_abs v, over-le c.args.n.now.mid c.args.d.now.mid c.requires.covers)
