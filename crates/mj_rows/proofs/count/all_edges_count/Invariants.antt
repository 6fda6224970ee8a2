use Rattle.std.proofs.Common.{◌≡◌, ◌*◌, ◌≤◌, length}
use Rattle.fx_whole.specs.Joined.{joined}
use Rattle.mj_types.specs.Placed.{Placing}
use Rattle.mj_rows.specs.Constraints.{contact}
use Rattle.mj_rows.specs.Edges.{edges}
use Rattle.mj_rows.proofs.count.all_edges_count.Given as goal

abbrev pub invariant-loop-k : goal.invariant-loop-k
invariant-loop-k l = record {
  counted : (x : Placing) → l.count ≡ length (joined l.k (λ k. edges l.model x (contact l.contacts.list.list k) k));
  few : l.count ≤ 4 * l.k;
}
