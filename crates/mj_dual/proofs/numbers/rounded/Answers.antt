use Rattle.std.proofs.Common.{◌≡◌, ◌^◌, pos, to_z, of_z, unsigned_abs, ap, arith, rules}
use mir.Syntax.{w128}
use Rattle.fx_whole.specs.Nearest.{nearest}
use Rattle.fx_whole.proofs.NearestLaws.{nearest-within}
use Rattle.mj_dual.proofs.numbers.rounded.Goals as goal

pub returns-clause-small : goal.returns-clause-small
returns-clause-small c =
    let v : to_z w128 (of_z w128 c.nearest_shift.result) ≡ nearest c.args.sum.now.raw (pos (2 ^ 32)) = search rules in
    omega (arith, ap unsigned_abs v, nearest-within c.args.sum.now.raw (pos (2 ^ 32)) (2 ^ 78) (omega (arith, c.requires)))
