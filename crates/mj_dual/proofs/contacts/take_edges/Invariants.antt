use Rattle.std.proofs.Common.{None, [], ◌∷◌, ◌+◌}
use Rattle.fx_whole.specs.Joined.{joined}
use Rattle.mj_types.specs.Placed.{placing_of}
use Rattle.mj_rows.specs.Edges.{edge_of, first_edge}
use Rattle.mj_dual.specs.Reductions.{dynamics}
use Rattle.mj_dual.specs.Taking.{HasAdded}
use Rattle.mj_dual.proofs.contacts.take_edges.Given as goal

abbrev pub invariant-loop-i : goal.invariant-loop-i
invariant-loop-i l = record {
  added : HasAdded l.model (dynamics l.model l.state l.factor l.smooth) (joined l.i (λ i. edge_of l.model (placing_of l.frames) l.contact l.k (first_edge l.model l.contact + i) ∷ [])) None l.fn.rows l.rows l.fn.out l.out;
}
