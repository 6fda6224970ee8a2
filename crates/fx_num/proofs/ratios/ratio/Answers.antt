use Rattle.std.proofs.Common.{◌≡◌, unsigned_abs, to_z, of_z, rules, arith, ap}
use mir.Syntax.{w128}
use Rattle.fx_num.specs.Scalars.{over}
use Rattle.fx_num.proofs.RatioLaws.{over-le}
use Rattle.fx_num.proofs.ratios.ratio.Goals as goal

pub narrow-requires : goal.narrow-requires
narrow-requires c =
    let v : to_z w128 (of_z w128 c.nearest.result) ≡ over c.args.n.now.mid c.args.d.now.mid = search rules in
    omega (arith, ap unsigned_abs v, over-le c.args.n.now.mid c.args.d.now.mid c.requires.covers)

pub returns-clause-size : goal.returns-clause-size
returns-clause-size c =
    let v : c.from_raw.result.mid ≡ over c.args.n.now.mid c.args.d.now.mid = search rules in
    omega (arith, ap unsigned_abs v, over-le c.args.n.now.mid c.args.d.now.mid c.requires.covers)
