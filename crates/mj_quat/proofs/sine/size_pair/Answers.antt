use Rattle.std.proofs.Common.{◌≡◌, pos, unsigned_abs, to_z, of_z, rules, arith, ap}
use mir.Syntax.{w64}
use Rattle.mj_quat.specs.Sine.{rest_sine, rest_cosine}
use Rattle.mj_quat.proofs.SineLaws.{rest_sine-size, rest_cosine-size}
use Rattle.mj_quat.proofs.sine.size_pair.Goals as goal

pub returns-clause-sine_size : goal.returns-clause-sine_size
returns-clause-sine_size c =
    let v : to_z w64 (of_z w64 c.round.result) ≡ rest_sine (pos c.args.rest) = search rules in
    omega (arith, ap unsigned_abs v, rest_sine-size (pos c.args.rest) c.requires)

pub returns-clause-cosine_size : goal.returns-clause-cosine_size
returns-clause-cosine_size c =
    let v : to_z w64 (of_z w64 c.round-2.result) ≡ rest_cosine (pos c.args.rest) = search rules in
    omega (arith, ap unsigned_abs v, rest_cosine-size (pos c.args.rest) c.requires)
