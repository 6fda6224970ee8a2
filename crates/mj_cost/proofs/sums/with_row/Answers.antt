use Rattle.std.proofs.Common.{◌+◌, ◌≤◌, ◌^◌, ◌∙◌, pos, Some, None, ap, ap₂, sym, subst, unsigned_abs}
use Rattle.std.proofs.lemmas.Result.{err_from_is_err_and}
use Rattle.fx_whole.proofs.FirstLaws.{stop_first, pass_first}
use Rattle.mj_optimum.specs.Limits.{cost_limit, weight_to, pull_to}
use Rattle.mj_types.specs.Parts.{plain}
use Rattle.mj_types.specs.Problems.{problem, forces, place}
use Rattle.mj_types.specs.Ranges.{limited, unless}
use Rattle.mj_types.specs.declared.range.Quantity.TheVariants as kind
use Rattle.mj_cost.specs.Costs.{cost_fault}
use Rattle.mj_cost.proofs.CostLaws.{weight-exact, weight-test, pull-exact, pull-test, unless-passed, within-limit, within-pull}
use Rattle.mj_cost.proofs.sums.with_row.Goals as goal

pub with_pull-pull-requires-clause-f : goal.with_pull-pull-requires-clause-f
with_pull-pull-requires-clause-f c = subst (λ x. unsigned_abs x ≤ 2 ^ 50) (ap (λ x. x.mid) (c.at-f.ensures (plain (pos 0)))) (c.requires.small c.args.i c.requires.row)

pub returns-in_err-unless-clause-first : goal.returns-in_err-unless-clause-first
unfolding cost_fault
returns-in_err-unless-clause-first c =
    let p = problem c.args.dual.now in
    let f = forces c.args.out.now in
    let q = err_from_is_err_and c.from_residual.result c.from_residual.ensures.1 in
    let hf = ap (λ x. x.mid) (c.at-f.ensures (plain (pos 0))) in
    let test = weight-test p f c.args.i c.args.sums.weight c.args.sums.pull c.with_weight-weight.result _ _ c.requires.sums (ap (λ x. x.raw) (c.at.ensures (record { raw = pos 0 }))) hf c.with_weight-weight.ensures in
    rw (q.1, q.2) (stop_first (limited kind.Cost (place c.args.dual.now c.args.i) cost_limit (pos (weight_to p f (c.args.i + 1)))) (limited kind.Cost (place c.args.dual.now c.args.i) cost_limit (pos (pull_to p f (c.args.i + 1)))) c.in_err-unless.field-0.0
    (c.in_err-unless.ensures ∙ ap₂ (λ b k. unless b kind.Cost k) test (sym (c.at-place.ensures 0))))

pub returns-in_err-unless-2-clause-first : goal.returns-in_err-unless-2-clause-first
unfolding cost_fault
returns-in_err-unless-2-clause-first c =
    let p = problem c.args.dual.now in
    let f = forces c.args.out.now in
    let q = err_from_is_err_and c.from_residual-in_err-unless-2.result c.from_residual-in_err-unless-2.ensures.1 in
    let hf = ap (λ x. x.mid) (c.at-f.ensures (plain (pos 0))) in
    let test = weight-test p f c.args.i c.args.sums.weight c.args.sums.pull c.with_weight-weight.result _ _ c.requires.sums (ap (λ x. x.raw) (c.at.ensures (record { raw = pos 0 }))) hf c.with_weight-weight.ensures in
    let pull = pull-exact p f c.args.i c.args.sums.weight c.args.sums.pull c.with_pull-pull.result _ _ c.requires.sums (ap (λ x. x.mid) (c.at-2.ensures (plain (pos 0)))) hf c.with_pull-pull.ensures in
    rw (q.1, q.2) (pass_first (limited kind.Cost (place c.args.dual.now c.args.i) cost_limit (pos (weight_to p f (c.args.i + 1)))) (limited kind.Cost (place c.args.dual.now c.args.i) cost_limit (pos (pull_to p f (c.args.i + 1)))) (Some c.in_err-unless-2.field-0.0)
    (c.in_ok-unless.ensures ∙ ap₂ (λ b k. unless b kind.Cost k) test (sym (c.at-place.ensures 0)))
    (c.in_err-unless-2.ensures ∙ ap₂ (λ b k. unless b kind.Cost k) (pull-test c.with_pull-pull.result _ pull) (sym (c.at-place.ensures 0))))

pub returns-clause-first : goal.returns-clause-first
unfolding cost_fault
returns-clause-first c =
    let p = problem c.args.dual.now in
    let f = forces c.args.out.now in
    let hf = ap (λ x. x.mid) (c.at-f.ensures (plain (pos 0))) in
    let test = weight-test p f c.args.i c.args.sums.weight c.args.sums.pull c.with_weight-weight.result _ _ c.requires.sums (ap (λ x. x.raw) (c.at.ensures (record { raw = pos 0 }))) hf c.with_weight-weight.ensures in
    let pull = pull-exact p f c.args.i c.args.sums.weight c.args.sums.pull c.with_pull-pull.result _ _ c.requires.sums (ap (λ x. x.mid) (c.at-2.ensures (plain (pos 0)))) hf c.with_pull-pull.ensures in
    pass_first (limited kind.Cost (place c.args.dual.now c.args.i) cost_limit (pos (weight_to p f (c.args.i + 1)))) (limited kind.Cost (place c.args.dual.now c.args.i) cost_limit (pos (pull_to p f (c.args.i + 1)))) None
    (c.in_ok-unless.ensures ∙ ap₂ (λ b k. unless b kind.Cost k) test (sym (c.at-place.ensures 0)))
    (c.in_ok-unless-2.ensures ∙ ap₂ (λ b k. unless b kind.Cost k) (pull-test c.with_pull-pull.result _ pull) (sym (c.at-place.ensures 0)))

pub returns-clause-sums : goal.returns-clause-sums
returns-clause-sums c =
    let p = problem c.args.dual.now in
    let f = forces c.args.out.now in
    let hf = ap (λ x. x.mid) (c.at-f.ensures (plain (pos 0))) in
    let small = within-limit c.with_weight-weight.result (unless-passed _ kind.Cost c.at-place.result c.in_ok-unless.ensures) in
    record {
      weight = weight-exact p f c.args.i c.args.sums.weight c.args.sums.pull c.with_weight-weight.result _ _ c.requires.sums (ap (λ x. x.raw) (c.at.ensures (record { raw = pos 0 }))) hf c.with_weight-weight.ensures small;
      weight_small = small;
      pull = pull-exact p f c.args.i c.args.sums.weight c.args.sums.pull c.with_pull-pull.result _ _ c.requires.sums (ap (λ x. x.mid) (c.at-2.ensures (plain (pos 0)))) hf c.with_pull-pull.ensures;
      pull_small = within-pull c.with_pull-pull.result (unless-passed _ kind.Cost c.at-place.result c.in_ok-unless-2.ensures);
    }
