use Rattle.std.proofs.Common.{◌≡◌, rules}
use Rattle.std.proofs.Common.{◌-ℤ◌}
use Rattle.mj_imp.specs.Impedance.{times}
use Rattle.mj_imp.proofs.ShareLaws.{step_size}
use Rattle.mj_imp.proofs.solimp.step.Goals as goal

pub returns-clause-size : goal.returns-clause-size
returns-clause-size c =
    let v : c.settled.result.mid ≡ times c.args.y.now.mid (c.args.b.now.mid -ℤ c.args.a.now.mid) = search rules in
    rw v (step_size c.args.y.now.mid (c.args.b.now.mid -ℤ c.args.a.now.mid) c.requires.low c.requires.high)
