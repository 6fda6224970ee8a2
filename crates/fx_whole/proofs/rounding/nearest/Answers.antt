use Rattle.std.proofs.Common.{SFits, rules, sym, subst}
use Rattle.std.proofs.lemmas.Int.{to_z-of_z}
use mir.Syntax.{w128}
use Rattle.fx_whole.specs.Nearest.{IsNearest}
use Rattle.fx_whole.proofs.NearestLaws.{nearest-from_sizes, nearest-is_nearest}
use Rattle.fx_whole.proofs.rounding.nearest.Goals as goal

pub returns-clause-formula : goal.returns-clause-formula
returns-clause-formula c =
    let n : SFits w128 c.args.n = c.ranges.n in
    let d : SFits w128 c.args.d = c.ranges.d in
    let r : SFits w128 c.with_sign.result = search rules in
    let a = simp to_z-of_z at c.unsigned_abs.ensures.value in
    let b = simp to_z-of_z at c.unsigned_abs-2.ensures.value in
    let s = simp to_z-of_z at c.with_sign.ensures in
    rw to_z-of_z (nearest-from_sizes c.args.n c.args.d c.with_sign.result c.unsigned_abs.result c.unsigned_abs-2.result c.nearest_size.result c.requires a b c.nearest_size.ensures.value s)

pub returns-clause-property : goal.returns-clause-property
returns-clause-property c = subst (IsNearest c.args.n c.args.d) (sym (returns-clause-formula c)) (nearest-is_nearest c.args.n c.args.d c.requires)
