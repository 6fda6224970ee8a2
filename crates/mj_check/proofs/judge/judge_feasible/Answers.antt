use Rattle.std.proofs.Common.{sym}
use Rattle.mj_types.specs.Problems.{problem, forces, place}
use Rattle.mj_check.specs.Numbers.{row_line}
use Rattle.mj_check.proofs.NumberLaws.{feasible-none}
use Rattle.mj_check.proofs.judge.judge_feasible.Goals as goal

pub returns-clause-feasible : goal.returns-clause-feasible
returns-clause-feasible c = feasible-none (problem c.args.dual.now) (forces c.args.forces.now) (row_line c.args.first (place c.args.dual.now)) (sym c.in_ok-judge_forces.ensures)
