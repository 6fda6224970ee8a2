use Rattle.std.proofs.Common.{◌≡◌, ◌≤◌, length}
use Rattle.mj_tree.specs.Tree.{at_or_above}
use Rattle.mj_types.specs.Parts.{parent_of}
use Rattle.mj_types.proofs.model.Model.is_at_or_above.Given as goal

abbrev pub decreases-loop-at : goal.decreases-loop-at
decreases-loop-at l = l.at

abbrev pub invariant-loop-at : goal.invariant-loop-at
invariant-loop-at l = (l.at ≤ length l.self.bodies) × (at_or_above (parent_of l.self.bodies) l.a l.at ≡ at_or_above (parent_of l.self.bodies) l.a l.b)
