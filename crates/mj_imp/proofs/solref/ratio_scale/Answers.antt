use Rattle.std.proofs.Common.{◌≡◌, ◌*ℤ◌, ◌^◌, pos, to_z, of_z, rules}
use mir.Syntax.{w128}
use Rattle.fx_whole.specs.Nearest.{nearest}
use Rattle.mj_imp.proofs.ScaleLaws.{time_low, ratio_some}
use Rattle.mj_imp.proofs.solref.ratio_scale.Goals as goal

pub returns-clause-some : goal.returns-clause-some
returns-clause-some c =
    let s = c.args.soft.now in
    let v : to_z w128 (of_z w128 c.nearest_shift.result) ≡ nearest (s.dmax.mid *ℤ s.tc.mid *ℤ s.dr.mid) (pos (2 ^ 48)) = search rules in
    rw v (ratio_some (s.dmax.mid *ℤ s.tc.mid) s.dr.mid (time_low s.dmax.mid s.tc.mid c.requires.dmax.least c.requires.timed.some_time) c.requires.timed.some_ratio)
