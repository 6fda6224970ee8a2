use Rattle.std.proofs.Common.{rules, SFits}
use Rattle.std.proofs.lemmas.Int.{to_z-of_z}
use mir.Syntax.{w64}
use Rattle.fx_near.proofs.RootCovers.{root_mid-positive}
use Rattle.fx_near.proofs.rooting.root_radius.Goals as goal

pub radius_over-requires-clause-divisor : goal.radius_over-requires-clause-divisor
radius_over-requires-clause-divisor g c =
    let a = c.args.a.now in
    let fits : SFits w64 c.args.mid.now = search rules in
    rw (to_z-of_z, c.requires.root) (root_mid-positive a.mid a.rad g.row.F c.requires.operand)
