use Rattle.std.proofs.Common.{ℤ, ℕ, pos, ◌+ℤ◌, ◌*ℤ◌, ◌==◌, ◌^◌, ◌≤◌, ◌≡◌, ap, ap₂, ◌∙◌, arith, unsigned_abs, mul-le-mul}
use Rattle.std.proofs.lemmas.Int.{ints}
use Rattle.fx_whole.specs.Sums.{when}
use Rattle.mj_types.specs.Duals.{wide_at}
use Rattle.mj_passive.proofs.JointLaws.{dof_is}
use Rattle.fx_whole.proofs.SumLaws.{grows}
use Rattle.mj_passive.proofs.tendons.pull_one.Goals as goal

none : (x : ℤ) → pos 0 +ℤ x ≡ x
none x = omega (arith, ints)

pub returns-clause-dofs : goal.returns-clause-dofs
returns-clause-dofs c d h =
    c.add_at.ensures d
    ∙ ap (λ (x : ℤ). wide_at c.args.dofs.now d +ℤ x)
    (ap₂ (λ b (x : ℤ). when b x) (ap (λ (p : ℕ). d == p) c.dof_of.ensures.place ∙ dof_is c.args.model.now c.args.term.now.joint c.requires.joint d h)
    (c.plus_product-pull.ensures.value ∙ none (c.args.term.now.coef.mid *ℤ c.args.force.now.mid)))

product_small : (c : goal.After-dofs-1) → unsigned_abs c.plus_product-pull.result.raw ≤ 2 ^ 94
product_small c = omega (arith, c.plus_product-pull.ensures.size, mul-le-mul c.requires.coef c.requires.force)

pub returns-clause-sizes : goal.returns-clause-sizes
returns-clause-sizes c d =
    grows (d == c.dof_of.result) (wide_at c.add_at.new.sums d) (wide_at c.args.dofs.now d) c.plus_product-pull.result.raw (2 ^ 94) (c.add_at.ensures d) (product_small c)
