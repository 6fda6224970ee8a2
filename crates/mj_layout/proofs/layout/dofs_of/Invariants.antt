use Rattle.std.proofs.Common.{◌≡◌, suc}
use Rattle.fx_whole.specs.Joined.{joined}
use Rattle.mj_types.specs.Parts.{joint}
use Rattle.mj_layout.specs.Layout.{dofs_on}
use Rattle.mj_layout.proofs.layout.dofs_of.Given as goal

abbrev pub invariant-loop-j : goal.invariant-loop-j
invariant-loop-j l = l.all.items ≡ joined l.j (λ j. dofs_on (suc j) (joint l.joints j))
