use Rattle.std.proofs.Common.{rules, arith, SFits, neg_ℤ}
use Rattle.std.proofs.lemmas.Int.{ints, to_z-of_z}
use mir.Syntax.{w128}
use Rattle.fx_whole.proofs.NearestLaws.{nearest-size}
use Rattle.mj_pgs.proofs.row.stepped.Goals as goal

pub sum-requires : goal.sum-requires
sum-requires c =
    let s : SFits w128 c.args.slope.raw = search rules in
    let n : SFits w128 c.negate.result = search rules in
    let r : SFits w128 c.nearest_by.result = search rules in
    let v = simp to_z-of_z at c.negate.ensures.value in
    let f = simp to_z-of_z at c.nearest_by.ensures.formula in
    simp to_z-of_z (rw (f, v) (omega (arith, ints, nearest-size (neg_ℤ c.args.slope.raw) c.args.by.now.d, c.requires, c.from.ensures)))
