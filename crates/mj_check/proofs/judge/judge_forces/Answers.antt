use Rattle.std.proofs.lemmas.Result.{err_from_is_err_and}
use Rattle.fx_whole.proofs.FirstLaws.{stop_here}
use Rattle.mj_types.specs.Problems.{problem, forces, place}
use Rattle.mj_check.specs.Numbers.{force_fault, row_line}
use Rattle.mj_check.proofs.judge.judge_forces.Goals as goal

pub returns-in_err-judge_force : goal.returns-in_err-judge_force
returns-in_err-judge_force c =
    let q = err_from_is_err_and c.from_residual.result c.from_residual.ensures.1 in
    rw (q.1, q.2) (stop_here c.loop-i.i c.args.dual.now.m (force_fault (problem c.args.dual.now) (forces c.args.forces.now) (row_line c.args.first (place c.args.dual.now))) c.in_err-judge_force.field-0.0 c.loop-i-test.true c.loop-i.invariant.passed c.in_err-judge_force.ensures)
