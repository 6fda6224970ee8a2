use Rattle.std.proofs.Common.{None}
use Rattle.fx_whole.specs.Joined.{joined}
use Rattle.mj_types.specs.Placed.{placing_of}
use Rattle.mj_rows.specs.Constraints.{contact}
use Rattle.mj_rows.specs.Edges.{edges}
use Rattle.mj_dual.specs.Reductions.{dynamics}
use Rattle.mj_dual.specs.Taking.{HasAdded}
use Rattle.mj_dual.proofs.contacts.take_contacts.Given as goal

abbrev pub invariant-loop-k : goal.invariant-loop-k
invariant-loop-k l = record {
  added : HasAdded l.model (dynamics l.model l.state l.factor l.smooth) (joined l.k (λ k. edges l.model (placing_of l.frames) (contact l.contacts.list.list k) k)) None l.fn.rows l.rows l.fn.out l.out;
}
