use Rattle.std.proofs.Common.{rules, SFits}
use Rattle.std.proofs.lemmas.Int.{to_z-of_z}
use mir.Syntax.{w64, w128}
use Rattle.fx_near.proofs.RadiusLaws.{scaled_small}
use Rattle.fx_near.proofs.quotient.widen.Goals as goal

pub returns-clause-size : goal.returns-clause-size
returns-clause-size g c =
    let a : SFits w64 c.args.a.now.mid = search rules in
    let r : SFits w128 c.scale_up.result = search rules in
    let s = simp to_z-of_z at c.scale_up.ensures.size in
    rw to_z-of_z (scaled_small c.args.a.now.mid c.scale_up.result g.row.F a c.requires s)
