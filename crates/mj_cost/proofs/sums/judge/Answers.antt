use Rattle.std.proofs.lemmas.Result.{err_from_is_err_and}
use Rattle.fx_whole.proofs.FirstLaws.{stop_here}
use Rattle.mj_types.specs.Problems.{problem, forces, place}
use Rattle.mj_cost.specs.Costs.{cost_fault}
use Rattle.mj_cost.proofs.sums.judge.Goals as goal

pub returns-in_err-sums-clause-first : goal.returns-in_err-sums-clause-first
returns-in_err-sums-clause-first c =
    let q = err_from_is_err_and c.from_residual.result c.from_residual.ensures.1 in
    rw (q.1, q.2) (stop_here c.loop-i.i c.args.dual.now.m (cost_fault (problem c.args.dual.now) (place c.args.dual.now) (forces c.args.out.now)) c.in_err-sums.field-0.0 c.loop-i-test.true c.loop-i.invariant.passed c.in_err-sums.ensures.first)
