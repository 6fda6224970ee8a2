use Rattle.std.proofs.Common.{◌≡◌, min, sum_by, take}
use Rattle.mj_walk.specs.Counts as spec
use Rattle.mj_walk.proofs.counts.dof_count.Given as goal

abbrev pub invariant-loop-b : goal.invariant-loop-b
invariant-loop-b l = l.total ≡ min 200 (sum_by spec.body_dofs (take l.b-index l.bodies))
