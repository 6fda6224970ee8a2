use Rattle.std.proofs.Common.{◌≡◌, None, length}
use Rattle.fx_whole.specs.First.{first_to}
use Rattle.mj_types.specs.Parts.{joint, number_at}
use Rattle.mj_euler.specs.Advance.{position_fault}
use Rattle.mj_euler.specs.Written.{AreAllMoved}
use Rattle.mj_euler.proofs.integration.move_joints.Given as goal

abbrev pub invariant-loop-j : goal.invariant-loop-j
invariant-loop-j l = record {
  len : length l.q ≡ length l.fn.q;
  moved : AreAllMoved l.model l.state (number_at l.v) l.j l.q;
  passed : first_to l.j (λ j. position_fault l.model l.state (number_at l.v) (joint l.model.joints j)) ≡ None;
}
