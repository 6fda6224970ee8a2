use Rattle.std.proofs.Common.{rules, ◌≡◌, SFits}
use Rattle.std.proofs.lemmas.Int.{to_z-of_z}
use mir.Syntax.{w64}
use Rattle.fx_near.specs.Widths.{root_mid, root_radius}
use Rattle.fx_near.proofs.RootCovers.{root-covers}
use Rattle.fx_near.proofs.rooting.root_near.Goals as goal

pub returns-in-Ok-narrow_radius-clause-covers : goal.returns-in-Ok-narrow_radius-clause-covers
returns-in-Ok-narrow_radius-clause-covers g c =
    let a = c.args.a in
    let fits : SFits w64 c.in-Ok.mid = search rules in
    let mid : c.in-Ok.mid ≡ root_mid g.row.F a.mid = search rules in
    let rad : c.in-Ok-narrow_radius.rad ≡ root_radius g.row.F a.mid a.rad = search rules in
    rw (to_z-of_z, mid, rad) (λ n d p. root-covers a.mid n a.rad g.row.F d c.requires.operand p)
