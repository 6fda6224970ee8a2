use Rattle.std.proofs.Common.{◌≡◌, ◌∙◌, ℕ, ℤ, Some, None, ap, sym, subst}
use Rattle.std.proofs.lemmas.Result.{err_from_is_err_and}
use Rattle.fx_whole.specs.First.{first_to}
use Rattle.fx_whole.proofs.FirstLaws.{stop_first, pass_first}
use Rattle.mj_optimum.specs.Sweep.{sweep}
use Rattle.mj_types.specs.Problems.{problem, forces, place}
use Rattle.mj_cost.specs.Costs.{cost_fault}
use Rattle.mj_pgs.specs.Answer.{pass_fault, sweep_fault}
use Rattle.mj_pgs.proofs.SweepLaws.{fall, solved}
use Rattle.mj_pgs.proofs.sweep.round.Goals as goal

pub returns-in_err-total-clause-first : goal.returns-in_err-total-clause-first
unfolding sweep_fault
returns-in_err-total-clause-first c =
    let p = problem c.args.dual.now in
    let f = forces c.args.out.now in
    let q = err_from_is_err_and c.from_residual.result c.from_residual.ensures.1 in
    rw (q.1, q.2) (stop_first (pass_fault p (place c.args.dual.now) f) (first_to p.m (cost_fault p (place c.args.dual.now) (sweep p f))) c.in_err-total.field-0.0 c.in_err-total.ensures.first)

pub returns-in_err-judge-clause-first : goal.returns-in_err-judge-clause-first
unfolding sweep_fault
returns-in_err-judge-clause-first c =
    let p = problem c.args.dual.now in
    let f = forces c.args.out.now in
    let q = err_from_is_err_and c.from_residual-in_err-judge.result c.from_residual-in_err-judge.ensures.1 in
    rw (q.1, q.2) (pass_first (pass_fault p (place c.args.dual.now) f) (first_to p.m (cost_fault p (place c.args.dual.now) (sweep p f))) (Some c.in_err-judge.field-0.0) c.in_ok-total.ensures.first
    (c.in_err-judge.ensures.first ∙ ap (λ (g : ℕ → ℤ). first_to p.m (cost_fault p (place c.args.dual.now) g)) c.in_ok-total.ensures.forces))

pub returns-clause-first : goal.returns-clause-first
unfolding sweep_fault
returns-clause-first c =
    let p = problem c.args.dual.now in
    let f = forces c.args.out.now in
    pass_first (pass_fault p (place c.args.dual.now) f) (first_to p.m (cost_fault p (place c.args.dual.now) (sweep p f))) None c.in_ok-total.ensures.first
    (c.in_ok-judge.ensures.first ∙ ap (λ (g : ℕ → ℤ). first_to p.m (cost_fault p (place c.args.dual.now) g)) c.in_ok-total.ensures.forces)

pub returns-clause-solved : goal.returns-clause-solved
returns-clause-solved c = solved c.args.dual.now c.args.out.now c.sweep.new.out c.requires.feasible c.in_ok-total.ensures.held c.in_ok-total.ensures.forces c.in_ok-judge.ensures.weight c.in_ok-judge.ensures.pull

pub returns-clause-fall : goal.returns-clause-fall
returns-clause-fall c =
    fall c.args.dual.now c.args.out.now c.sweep.new.out c.in_ok-total.total.raw c.negative.result.raw c.requires.feasible c.requires.cost c.in_ok-total.ensures.forces c.in_ok-judge.ensures.pull c.in_ok-total.ensures.change c.negative.ensures
