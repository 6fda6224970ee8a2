use Rattle.mj_layout.proofs.Upheld.{IsUpheld}
use Rattle.mj_layout.proofs.layout.place_joints.Given as goal

abbrev pub invariant-loop-j : goal.invariant-loop-j
invariant-loop-j l = IsUpheld l.joints l.j l.p
