use Rattle.mj_cost.proofs.CostLaws.{JudgedSoFar}
use Rattle.mj_cost.proofs.sums.judge.Given as goal

abbrev pub invariant-loop-i : goal.invariant-loop-i
invariant-loop-i l = JudgedSoFar l.dual l.out l.i l.sums.weight l.sums.pull
