use Rattle.std.proofs.Common.{None}
use Rattle.fx_whole.specs.Joined.{joined}
use Rattle.mj_rows.specs.Joints.{frictions}
use Rattle.mj_dual.specs.Reductions.{dynamics}
use Rattle.mj_dual.specs.Taking.{HasAdded}
use Rattle.mj_dual.proofs.joints.take_frictions.Given as goal

abbrev pub invariant-loop-j : goal.invariant-loop-j
invariant-loop-j l = record {
  added : HasAdded l.model (dynamics l.model l.state l.factor l.smooth) (joined l.j (frictions l.model)) None l.fn.rows l.rows l.fn.out l.out;
}
