use Rattle.std.proofs.Common.{◌≡◌, ℕ, ◌+◌, ◌-◌, ◌<◌, ◌≤◌, false, length, slice_index_or}
use Rattle.mj_tree.specs.Tree.{at_or_above}
use Rattle.mj_types.specs.Parts.{parent_of, body_of}
use Rattle.mj_inertia.specs.MassEntries.{joins}
use Rattle.mj_inertia.proofs.matrix.joins_of.Given as goal

abbrev pub invariant-loop-s : goal.invariant-loop-s
invariant-loop-s l = record {
  width : length l.joins ≡ 64;
  there : l.at ≤ length l.model.bodies;
  same : (b : ℕ) → b ≤ body_of l.model.dofs (l.j - l.s)
      → at_or_above (parent_of l.model.bodies) b l.at ≡ at_or_above (parent_of l.model.bodies) b (body_of l.model.dofs l.j);
  marked : (i : ℕ) → i ≤ l.j → l.j < i + l.s → slice_index_or l.joins i false ≡ joins l.model i l.j;
}
