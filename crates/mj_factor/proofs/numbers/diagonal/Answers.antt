use Rattle.std.proofs.Common.{◌==◌, ◌-ℤ◌, refl, sym, ap₂, ◌∙◌, eq-eqb}
use Rattle.fx_whole.proofs.SumLaws.{when-true}
use Rattle.mj_factor.proofs.numbers.diagonal.Goals as goal

pub returns : goal.returns
returns c =
    c.minus.ensures
    ∙ ap₂ (λ x y. x -ℤ y) c.mass_of.ensures (sym (when-true (c.args.k == c.args.k) c.args.shift.now.mid (eq-eqb c.args.k c.args.k refl)))
