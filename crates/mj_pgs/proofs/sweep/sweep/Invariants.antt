use Rattle.mj_pgs.proofs.SweepLaws.{SweptSoFar}
use Rattle.mj_pgs.proofs.sweep.sweep.Given as goal

abbrev pub invariant-loop-i : goal.invariant-loop-i
invariant-loop-i l = SweptSoFar l.dual l.fn.out l.out l.total.raw l.i
