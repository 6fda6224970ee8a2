use Rattle.std.proofs.Common.{pos, ◌+◌, ◌^◌, ◌+ℤ◌, ◌*ℤ◌, ◌<ℤ◌, sym, ap, ap₂, ◌∙◌, subst}
use Rattle.fx_whole.specs.Nearest.{nearest}
use Rattle.fx_whole.proofs.FirstLaws.{pass_first}
use Rattle.mj_types.specs.declared.range.Quantity.TheVariants as kind
use Rattle.mj_types.specs.Duals.{wide_at}
use Rattle.mj_types.specs.Forests.{above_in}
use Rattle.mj_types.specs.Parts.{number_at}
use Rattle.mj_types.specs.Ranges.{limited}
use Rattle.mj_factor.specs.Stored.{entry}
use Rattle.mj_factor.proofs.NumberLaws.{pivot_root_some}
use Rattle.mj_factor.proofs.solving.half_number.Goals as goal

pub over_root-requires : goal.over_root-requires
over_root-requires c =
    subst (λ x. pos 0 <ℤ x) (sym c.root_at-root.ensures) (pivot_root_some (number_at c.args.factor.now.d c.args.k) (c.requires.factor.least c.args.k c.requires.dof))

pub returns-clause-value : goal.returns-clause-value
returns-clause-value c =
    c.in_ok-g.ensures.value ∙ c.over_root.ensures
    ∙ ap₂ (λ y r. nearest (y *ℤ pos (2 ^ 24)) r) c.in_ok-y.ensures.value c.root_at-root.ensures

pub returns-clause-sums : goal.returns-clause-sums
returns-clause-sums c = λ i.
    c.in_ok-y.ensures.sums i
    ∙ ap (λ y. wide_at c.args.sums.now i +ℤ entry (above_in c.args.model.now) c.args.factor.now.l c.args.k i *ℤ y) c.in_ok-y.ensures.value

pub returns-clause-first : goal.returns-clause-first
returns-clause-first c =
    pass_first _ _ _ c.in_ok-y.ensures.first
    (c.in_ok-g.ensures.first
    ∙ ap (limited kind.Reduced (c.args.k + 1) (2 ^ 44))
    (c.over_root.ensures ∙ ap₂ (λ y r. nearest (y *ℤ pos (2 ^ 24)) r) c.in_ok-y.ensures.value c.root_at-root.ensures))
