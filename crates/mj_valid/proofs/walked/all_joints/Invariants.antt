use Rattle.std.proofs.Common.{◌≡◌}
use Rattle.mj_valid.specs.Judging.{all_joints}
use Rattle.mj_valid.proofs.walked.all_joints.Given as goal

abbrev pub invariant-loop-b : goal.invariant-loop-b
invariant-loop-b l = l.all.items ≡ all_joints l.yielded
