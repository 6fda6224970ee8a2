use Rattle.std.proofs.Common.{◌≡◌, ◌∙◌, ℤ, ap, ap₂, sym, subst, IsTrue, Option, None}
use Rattle.mj_optimum.specs.Limits.{force_limit}
use Rattle.mj_optimum.specs.Sweep.{divisor, update}
use Rattle.mj_optimum.specs.Cost.{gradient}
use Rattle.mj_types.specs.Duals.{bound, bound_at, is_low, is_high}
use Rattle.mj_types.specs.Problems.{problem, forces}
use Rattle.mj_types.specs.Ranges.{limited}
use Rattle.mj_types.specs.declared.range.Quantity.TheVariants as kind
use Rattle.mj_pgs.proofs.RowLaws.{same_next}
use Rattle.mj_pgs.proofs.row.next.Goals as goal

pub next_force-next-requires-clause-low : goal.next_force-next-requires-clause-low
next_force-next-requires-clause-low c = subst (λ (a : Option ℤ). IsTrue (is_low a)) (ap bound (c.at.ensures None)) (c.requires.held.solvable.each c.args.i c.requires.row).low_bound

pub next_force-next-requires-clause-high : goal.next_force-next-requires-clause-high
next_force-next-requires-clause-high c = subst (λ (a : Option ℤ). IsTrue (is_high a)) (ap bound (c.at-2.ensures None)) (c.requires.held.solvable.each c.args.i c.requires.row).high_bound

pub returns-clause-first : goal.returns-clause-first
returns-clause-first c =
    let d = c.args.dual.now in
    let x = c.args.out.now in
    let i = c.args.i in
    let value : c.next_force-next.result.raw ≡ update (problem d) (forces x) i =
    c.next_force-next.ensures ∙ same_next _ (bound_at d.low i) _ (bound_at d.high i) _ (divisor (problem d) i) _ (forces x i) _ (gradient (problem d) (forces x) i)
    (sym (ap bound (c.at.ensures None))) (sym (ap bound (c.at-2.ensures None)))
    (sym (ap (λ e. e.d) (c.entry.ensures c.entry.result.now)) ∙ (c.requires.held.ready i c.requires.row).divisor c.entry.result.now) c.requires.force c.requires.slope in
    c.force_within.ensures.first ∙ ap₂ (λ a b. limited kind.Force a force_limit b) (sym (c.at-3.ensures 0)) value

pub returns-clause-value : goal.returns-clause-value
returns-clause-value c =
    let d = c.args.dual.now in
    let x = c.args.out.now in
    let i = c.args.i in
    let value : c.next_force-next.result.raw ≡ update (problem d) (forces x) i =
    c.next_force-next.ensures ∙ same_next _ (bound_at d.low i) _ (bound_at d.high i) _ (divisor (problem d) i) _ (forces x i) _ (gradient (problem d) (forces x) i)
    (sym (ap bound (c.at.ensures None))) (sym (ap bound (c.at-2.ensures None)))
    (sym (ap (λ e. e.d) (c.entry.ensures c.entry.result.now)) ∙ (c.requires.held.ready i c.requires.row).divisor c.entry.result.now) c.requires.force c.requires.slope in
    rw (← value) c.force_within.ensures.value
