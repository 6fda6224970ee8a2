use Rattle.std.proofs.Common.{◌≡◌, ◌∙◌, ℕ, ℤ, ap, arith}
use Rattle.std.proofs.lemmas.Result.{err_from_is_err_and}
use Rattle.fx_whole.proofs.FirstLaws.{stop_here, pass_all}
use Rattle.mj_optimum.specs.Sweep.{pass}
use Rattle.mj_types.specs.Problems.{problem, forces, place}
use Rattle.mj_pgs.specs.Answer.{row_fault, pass_fault}
use Rattle.mj_pgs.proofs.SweepLaws.{swept-none, swept-more}
use Rattle.mj_pgs.proofs.sweep.sweep.Goals as goal

pub loop-i-init : goal.loop-i-init
loop-i-init c = swept-none c.args.dual.now c.args.out.now c.requires.held

pub loop-i-preserved : goal.loop-i-preserved
loop-i-preserved c =
    let u = c.in_ok-update.ensures in
    swept-more c.args.dual.now c.args.out.now c.loop-i.out c.update.new.out c.loop-i.total.raw c.in_ok-update.field-0.raw c.plus-total.result.raw c.loop-i.i c.loop-i.invariant u.places u.held u.forces u.first u.change c.plus-total.ensures

pub returns-in_err-update-clause-first : goal.returns-in_err-update-clause-first
unfolding pass_fault
returns-in_err-update-clause-first c =
    let p = problem c.args.dual.now in
    let q = err_from_is_err_and c.from_residual.result c.from_residual.ensures.1 in
    rw (q.1, q.2) (stop_here c.loop-i.i c.args.dual.now.m (λ i. row_fault p (place c.args.dual.now) (pass p (forces c.args.out.now) i) i) c.in_err-update.field-0.0 c.loop-i-test.true c.loop-i.invariant.passed
    (c.in_err-update.ensures.first ∙ ap (λ (f : ℕ → ℤ). row_fault p (place c.args.dual.now) f c.loop-i.i) c.loop-i.invariant.swept))

pub returns-clause-first : goal.returns-clause-first
unfolding pass_fault
returns-clause-first c =
    let p = problem c.args.dual.now in
    let e : c.loop-i.i ≡ c.args.dual.now.m = omega arith in
    pass_all c.loop-i.i c.args.dual.now.m (λ i. row_fault p (place c.args.dual.now) (pass p (forces c.args.out.now) i) i) e c.loop-i.invariant.passed
