use Rattle.std.proofs.Common.{◌≡◌, min, sum_by, take}
use Rattle.mj_walk.specs.Counts as spec
use Rattle.mj_judge.specs.Choices.{joint_type}
use Rattle.mj_walk.proofs.counts.joint_dofs.Given as goal

abbrev pub invariant-loop-j : goal.invariant-loop-j
invariant-loop-j l = l.total ≡ min 200 (sum_by (λ j. spec.type_velocities (joint_type j.kind)) (take l.j-index l.joints))
