use Rattle.mj_pgs.proofs.RunLaws.{RunSoFar}
use Rattle.mj_pgs.proofs.solver.run.Given as goal

abbrev pub invariant-loop-s : goal.invariant-loop-s
invariant-loop-s l = RunSoFar l.dual l.tolerance.mid l.fn.out l.out l.s
