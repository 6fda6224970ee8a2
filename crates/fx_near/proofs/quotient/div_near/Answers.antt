use Rattle.std.proofs.Common.{rules, ◌≡◌, SFits}
use Rattle.std.proofs.lemmas.Int.{to_z-of_z}
use mir.Syntax.{w64}
use Rattle.fx_near.specs.Widths.{quotient_mid, quotient_radius}
use Rattle.fx_near.proofs.QuotientLaws.{quotient-covers}
use Rattle.fx_near.proofs.quotient.div_near.Goals as goal

pub returns-in-Ok-narrow_radius-clause-covers : goal.returns-in-Ok-narrow_radius-clause-covers
returns-in-Ok-narrow_radius-clause-covers g c =
    let a = c.args.a in
    let b = c.args.b in
    let fits : SFits w64 c.in-Ok.mid = search rules in
    let mid : c.in-Ok.mid ≡ quotient_mid g.row.F a.mid b.mid = search rules in
    let rad : c.in-Ok-narrow_radius.rad ≡ quotient_radius g.row.F a.mid a.rad b.mid b.rad = search rules in
    rw (to_z-of_z, mid, rad) (λ n m d e p q. quotient-covers a.mid b.mid n m a.rad b.rad g.row.F d e c.requires.divisor p q)
