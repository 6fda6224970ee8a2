use Rattle.std.proofs.Common.{◌^◌, ◌<ℤ◌, pos, SFits, arith, rules, refl, pow_pos}
use Rattle.std.proofs.lemmas.Int.{ints, to_z-of_z}
use mir.Syntax.{w128}
use Rattle.fx_whole.proofs.NearestLaws.{nearest-from_sizes}
use Rattle.fx_whole.proofs.rounding.nearest_shift_by_size.Goals as goal

pub returns : goal.returns
returns c =
    let positive : pos 0 <ℤ pos (2 ^ c.args.shift) = omega (arith, ints, pow_pos c.args.shift) in
    let n : SFits w128 c.args.n = c.ranges.n in
    let r : SFits w128 c.with_sign.result = search rules in
    let a = simp to_z-of_z at c.unsigned_abs.ensures.value in
    let s = simp to_z-of_z at c.with_sign.ensures in
    rw to_z-of_z (nearest-from_sizes c.args.n (pos (2 ^ c.args.shift)) c.with_sign.result c.unsigned_abs.result (2 ^ c.args.shift) c.nearest_size_shift.result positive a refl c.nearest_size_shift.ensures.value s)
