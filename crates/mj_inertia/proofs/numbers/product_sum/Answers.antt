use Rattle.std.proofs.Common.{◌≡◌, rules, ◌+ℤ◌, ℤ, pos, ap₂, ◌∙◌, SFits, arith}
use Rattle.std.proofs.lemmas.Int.{ints, to_z-of_z}
use mir.Syntax.{w128}
use Rattle.fx_vec.specs.Spatial.{Spatial, pair}
use Rattle.fx_vec.specs.Views.{spatial}
use Rattle.mj_inertia.proofs.numbers.product_sum.Goals as goal

pub returns-clause-mid : goal.returns-clause-mid
returns-clause-mid c =
    let fits : SFits w128 c.pair_into.new.out.mid = search rules in
    to_z-of_z w128 c.pair_into.new.out.mid fits
    ∙ c.pair_into.ensures.mid
    ∙ ap₂ (λ (x : ℤ) (f : Spatial ℤ). x +ℤ pair (spatial c.args.column.now) f) c.none-sum.ensures.mid c.mids6.ensures
    ∙ none (pair (spatial c.args.column.now) (spatial c.args.momentum.now))
  where
    none : (x : ℤ) → pos 0 +ℤ x ≡ x
    none x = omega (arith, ints)
