use Rattle.std.proofs.Common.{rules, SFits}
use Rattle.std.proofs.lemmas.Int.{to_z-of_z}
use mir.Syntax.{w128}
use Rattle.fx_num.proofs.Losses.{lost_is}
use Rattle.fx_num.proofs.settling.lost.Goals as goal

pub returns : goal.returns
returns c =
    let n : SFits w128 c.args.n = c.ranges.n in
    let v : SFits w128 c.args.value = c.ranges.value in
    let r : SFits w128 c.cast_signed.result = search rules in
    let a = simp to_z-of_z at c.unsigned_abs.ensures.value in
    let b = simp to_z-of_z at c.unsigned_abs-2.ensures.value in
    rw to_z-of_z (lost_is c.args.n c.args.value c.cast_signed.result c.args.shift c.unsigned_abs.result c.unsigned_abs-2.result c.abs_diff.result c.requires.in_width c.requires.rounded a b c.unsigned_abs-2.ensures.bound c.abs_diff.ensures c.cast_signed.ensures)
