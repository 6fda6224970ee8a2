use Rattle.mj_layout.proofs.Upheld.{AreMade}
use Rattle.mj_layout.proofs.layout.bodies_of.Given as goal

abbrev pub invariant-loop-b : goal.invariant-loop-b
invariant-loop-b l = AreMade l.parts l.joints l.b l.made.items l.place
