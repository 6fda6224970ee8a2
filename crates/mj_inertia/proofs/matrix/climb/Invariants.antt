use Rattle.std.proofs.Common.{◌≡◌, ℕ, ◌≤◌, length}
use Rattle.mj_tree.specs.Tree.{at_or_above}
use Rattle.mj_types.specs.Parts.{parent_of}
use Rattle.mj_inertia.proofs.matrix.climb.Given as goal

abbrev pub decreases-loop-at : goal.decreases-loop-at
decreases-loop-at l = l.at

abbrev pub invariant-loop-at : goal.invariant-loop-at
invariant-loop-at l = record {
  there : l.at ≤ length l.model.bodies;
  same : (b : ℕ) → b ≤ l.body → at_or_above (parent_of l.model.bodies) b l.at ≡ at_or_above (parent_of l.model.bodies) b l.from;
}
