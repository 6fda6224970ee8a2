use Rattle.mj_pgs.proofs.ShiftLaws.{ShiftedSoFar}
use Rattle.mj_pgs.proofs.shift.shift_small.Given as goal

abbrev pub invariant-loop-k : goal.invariant-loop-k
invariant-loop-k l = ShiftedSoFar l.row l.fn.u l.u l.step.mid l.k
