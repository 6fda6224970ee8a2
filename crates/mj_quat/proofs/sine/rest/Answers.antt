use Rattle.std.proofs.Common.{◌≡◌, unsigned_abs, to_z, of_z, rules, arith, ap}
use mir.Syntax.{w128, w64}
use Rattle.mj_quat.specs.Sine.{rest}
use Rattle.mj_quat.proofs.SineLaws.{rest-size}
use Rattle.mj_quat.proofs.sine.rest.Goals as goal

pub narrow-requires : goal.narrow-requires
narrow-requires c =
    let v : to_z w128 (of_z w128 c.nearest_shift.result) ≡ rest c.args.angle.now = search rules in
    omega (arith, ap unsigned_abs v, rest-size c.args.angle.now)

pub returns-clause-size : goal.returns-clause-size
returns-clause-size c =
    let v : to_z w64 (of_z w64 c.narrow.result) ≡ rest c.args.angle.now = search rules in
    omega (arith, ap unsigned_abs v, rest-size c.args.angle.now)
