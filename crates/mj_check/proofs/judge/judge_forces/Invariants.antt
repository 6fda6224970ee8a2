use Rattle.std.proofs.Common.{◌≡◌, None}
use Rattle.fx_whole.specs.First.{first_to}
use Rattle.mj_types.specs.Problems.{problem, forces, place}
use Rattle.mj_check.specs.Numbers.{force_fault, row_line}
use Rattle.mj_check.proofs.judge.judge_forces.Given as goal

abbrev pub invariant-loop-i : goal.invariant-loop-i
invariant-loop-i l = record { passed : first_to l.i (force_fault (problem l.dual) (forces l.forces) (row_line l.first (place l.dual))) ≡ None }
