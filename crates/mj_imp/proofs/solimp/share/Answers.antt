use Rattle.std.proofs.Common.{◌≡◌, to_z, of_z, rules, arith, ap, unsigned_abs}
use Rattle.std.proofs.lemmas.Int.{ints}
use mir.Syntax.{w128}
use Rattle.mj_imp.specs.Impedance.{over}
use Rattle.mj_imp.proofs.ShareLaws.{over_between}
use Rattle.mj_imp.proofs.solimp.share.Goals as goal

pub narrow-requires : goal.narrow-requires
narrow-requires c =
    let v : to_z w128 (of_z w128 c.nearest.result) ≡ over c.args.a.now.mid c.args.b.now.mid = search rules in
    let b = over_between c.args.a.now.mid c.args.b.now.mid c.requires.positive c.requires.low c.requires.high in
    rw v (omega (arith, ints, b.0, b.1))

pub returns-clause-low : goal.returns-clause-low
returns-clause-low c =
    let v : c.from_raw.result.mid ≡ over c.args.a.now.mid c.args.b.now.mid = search rules in
    rw v (over_between c.args.a.now.mid c.args.b.now.mid c.requires.positive c.requires.low c.requires.high).0

pub returns-clause-high : goal.returns-clause-high
returns-clause-high c =
    let v : c.from_raw.result.mid ≡ over c.args.a.now.mid c.args.b.now.mid = search rules in
    rw v (over_between c.args.a.now.mid c.args.b.now.mid c.requires.positive c.requires.low c.requires.high).1
