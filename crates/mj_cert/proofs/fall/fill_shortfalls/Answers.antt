use Rattle.std.proofs.Common.{◌≡◌, ℕ, ap, ◌∙◌, arith}
use Rattle.std.proofs.lemmas.Result.{err_from_is_err_and}
use Rattle.fx_whole.proofs.FirstLaws.{stop_here}
use Rattle.mj_optimum.specs.Limits.{shortfall_to}
use Rattle.mj_optimum.specs.Shortfall.{total_shortfall}
use Rattle.mj_types.specs.Problems.{problem, forces}
use Rattle.mj_cert.specs.Certificate.{shortfall_out}
use Rattle.mj_cert.proofs.fall.fill_shortfalls.Goals as goal

pub returns-in_err-total-clause-first : goal.returns-in_err-total-clause-first
returns-in_err-total-clause-first c =
    let q = err_from_is_err_and c.from_residual.result c.from_residual.ensures.1 in
    rw (q.1, q.2) (stop_here c.loop-i.i c.args.dual.now.m (shortfall_out c.args.dual.now c.args.forces.now) c.in_err-total.field-0.0 c.loop-i-test.true c.loop-i.invariant.passed c.in_err-total.ensures.first)

pub returns-clause-total : goal.returns-clause-total
unfolding total_shortfall
returns-clause-total c =
    let all : c.loop-i.i ≡ c.args.dual.now.m = omega arith in
    c.loop-i.invariant.sum ∙ ap (λ (n : ℕ). shortfall_to (problem c.args.dual.now) (forces c.args.forces.now) n) all
