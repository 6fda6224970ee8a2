use Rattle.std.proofs.Common.{◌≡◌, rules}
use Rattle.mj_imp.specs.Impedance.{times}
use Rattle.mj_imp.proofs.ShareLaws.{times_between}
use Rattle.mj_imp.proofs.solimp.part.Goals as goal

pub returns-clause-low : goal.returns-clause-low
returns-clause-low c =
    let v : c.settled.result.mid ≡ times c.args.a.now.mid c.args.q.now.mid = search rules in
    rw v (times_between c.args.a.now.mid c.args.q.now.mid c.requires.some c.requires.low c.requires.high).0

pub returns-clause-high : goal.returns-clause-high
returns-clause-high c =
    let v : c.settled.result.mid ≡ times c.args.a.now.mid c.args.q.now.mid = search rules in
    rw v (times_between c.args.a.now.mid c.args.q.now.mid c.requires.some c.requires.low c.requires.high).1
