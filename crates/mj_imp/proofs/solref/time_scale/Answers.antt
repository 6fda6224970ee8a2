use Rattle.std.proofs.Common.{◌≡◌, ◌*ℤ◌, to_z, of_z, rules}
use mir.Syntax.{w128}
use Rattle.mj_imp.proofs.ScaleLaws.{time_low}
use Rattle.mj_imp.proofs.solref.time_scale.Goals as goal

pub returns-clause-low : goal.returns-clause-low
returns-clause-low c =
    let v : to_z w128 (of_z w128 c.product.result) ≡ c.args.soft.now.dmax.mid *ℤ c.args.soft.now.tc.mid = search rules in
    rw v (time_low c.args.soft.now.dmax.mid c.args.soft.now.tc.mid c.requires.dmax.least c.requires.timed.some_time)
