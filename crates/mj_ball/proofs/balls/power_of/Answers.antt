use Rattle.std.proofs.Common.{◌≡◌, ◌^◌, ◌≤◌, pos, to_z, of_z, unsigned_abs, ap, arith, rules, pow_mono}
use Rattle.std.proofs.lemmas.Int.{ints}
use mir.Syntax.{w64, w128}
use Rattle.mj_ball.proofs.balls.power_of.Goals as goal

pub narrow-requires : goal.narrow-requires
narrow-requires c =
    let small : 2 ^ c.args.k ≤ 2 ^ 50 = pow_mono c.requires in
    let v : to_z w128 (of_z w128 c.power.result) ≡ pos (2 ^ c.args.k) = search rules in
    omega (arith, ints, ap unsigned_abs v, small)

pub returns-clause-small : goal.returns-clause-small
returns-clause-small c =
    let small : 2 ^ c.args.k ≤ 2 ^ 50 = pow_mono c.requires in
    let v : to_z w64 (of_z w64 c.narrow.result) ≡ pos (2 ^ c.args.k) = search rules in
    omega (arith, ints, ap unsigned_abs v, small)
