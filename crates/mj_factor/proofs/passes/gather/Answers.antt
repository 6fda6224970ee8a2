use Rattle.std.proofs.Common.{ℕ, ◌≡◌, ◌+ℤ◌, ◌*ℤ◌, unsigned_abs, ap, ap₂, sym, ◌∙◌, arith}
use Rattle.fx_whole.specs.Sums.{sum_to}
use Rattle.fx_whole.proofs.SumLaws.{sum_to-more}
use Rattle.mj_tree.specs.Listing.{height}
use Rattle.mj_types.specs.Forests.{above_in}
use Rattle.mj_types.specs.Parts.{number_at}
use Rattle.mj_factor.proofs.GatherLaws.{gathered, gathered_small, gathered_all}
use Rattle.mj_factor.proofs.ScatterLaws.{sum_fits}
use Rattle.mj_factor.proofs.passes.gather.Goals as goal

pub plus_product-sum-requires : goal.plus_product-sum-requires
plus_product-sum-requires c =
    let small = gathered_small c.args.model.now c.args.factor.now c.requires.factor c.args.i c.requires.dof (number_at c.args.a.now) c.requires.small c.loop-c.c (omega arith) c.loop-c.sum.raw c.loop-c.invariant in
    let fits = sum_fits (unsigned_abs c.loop-c.sum.raw) (unsigned_abs c.entry_of.result.now.mid) (unsigned_abs (number_at c.args.a.now c.named.result)) small c.entry_of.ensures.small (c.requires.small c.named.result c.named.ensures.before) in
    (omega arith, (omega arith, (omega arith, fits)))

pub loop-c-preserved : goal.loop-c-preserved
loop-c-preserved c =
    let term = gathered c.args.model.now c.args.factor.now c.args.i (number_at c.args.a.now) in
    c.plus_product-sum.ensures
    ∙ ap₂ (λ x y. x +ℤ y) c.loop-c.invariant
    (ap₂ (λ x (p : ℕ). x *ℤ number_at c.args.a.now p) c.entry_of.ensures.entry c.named.ensures.listed)
    ∙ sym (sum_to-more c.loop-c.c term)

pub returns-clause-sum : goal.returns-clause-sum
returns-clause-sum c =
    let term = gathered c.args.model.now c.args.factor.now c.args.i (number_at c.args.a.now) in
    let last : c.loop-c.c ≡ height (above_in c.args.model.now) c.args.i = omega arith in
    c.loop-c.invariant ∙ ap (λ (n : ℕ). sum_to n term) last
    ∙ gathered_all c.args.model.now c.args.factor.now c.requires.factor c.args.i c.requires.dof (number_at c.args.a.now)

pub returns-clause-small : goal.returns-clause-small
returns-clause-small c =
    gathered_small c.args.model.now c.args.factor.now c.requires.factor c.args.i c.requires.dof (number_at c.args.a.now) c.requires.small c.loop-c.c (omega arith) c.loop-c.sum.raw c.loop-c.invariant
