use Rattle.std.proofs.Common.{unsigned_abs, rules, SFits}
use Rattle.std.proofs.lemmas.Int.{to_z-of_z}
use mir.Syntax.{w128}
use Rattle.fx_num.proofs.RatioLaws.{near_rest}
use Rattle.fx_num.proofs.ratios.is_ratio.Goals as goal

pub returns : goal.returns
returns c =
    let r : SFits w128 c.rest.result = search rules in
    let h : SFits w128 c.below_half.result = search rules in
    let b = simp to_z-of_z at c.is_between.ensures in
    λ t. near_rest c.args.n.now.mid c.args.d.now.mid c.args.m.now.mid c.rest.result (unsigned_abs c.below_half.result) c.requires c.rest.ensures (b.0 t) c.below_half.ensures.small
