use Rattle.std.proofs.Common.{◌≡◌, to_z, of_z, unsigned_abs, rules, arith, ap}
use mir.Syntax.{w64}
use Rattle.fx_num.specs.Scalars as spec
use Rattle.fx_num.proofs.RoundLaws.{round_size}
use Rattle.fx_num.proofs.scalar.round.Goals as goal

pub returns-clause-size : goal.returns-clause-size
returns-clause-size g c =
    let v : to_z w64 (of_z w64 c.narrow.result) ≡ spec.round c.args.n.now = search rules in
    omega (arith, ap unsigned_abs v, round_size c.args.n.now)
