use Rattle.std.proofs.Common.{None}
use Rattle.fx_whole.specs.Joined.{joined}
use Rattle.mj_types.specs.Parts.{number_at}
use Rattle.mj_rows.specs.Limits.{tendon_limits}
use Rattle.mj_dual.specs.Reductions.{dynamics}
use Rattle.mj_dual.specs.Taking.{HasAdded}
use Rattle.mj_dual.proofs.tendons.take_tendon_limits.Given as goal

abbrev pub invariant-loop-t : goal.invariant-loop-t
invariant-loop-t l = record {
  added : HasAdded l.model (dynamics l.model l.state l.factor l.smooth) (joined l.t (tendon_limits l.model (number_at l.applied.length))) None l.fn.rows l.rows l.fn.out l.out;
}
