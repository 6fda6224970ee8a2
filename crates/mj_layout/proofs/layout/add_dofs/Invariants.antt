use Rattle.std.proofs.Common.{◌≡◌, ◌++◌}
use Rattle.mj_layout.specs.Layout.{listed, dof_of}
use Rattle.mj_layout.proofs.layout.add_dofs.Given as goal

abbrev pub invariant-loop-i : goal.invariant-loop-i
invariant-loop-i l = l.dofs.items ≡ l.initial.dofs.items ++ listed l.i (dof_of l.number l.x)
