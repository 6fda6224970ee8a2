use Rattle.std.proofs.Common.{◌≡◌, ℕ, ◌<◌, false}
use Rattle.mj_tree.specs.Tree.{moves}
use Rattle.mj_types.specs.Parts.{parent_of, body_of}
use Rattle.mj_contact.proofs.filter.is_moved.Given as goal

abbrev pub invariant-loop-d : goal.invariant-loop-d
invariant-loop-d l = (d : ℕ) → d < l.d → moves (parent_of l.model.bodies) (body_of l.model.dofs) d l.b ≡ false
