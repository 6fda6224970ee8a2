-- Which dof of a model is above which, by their places.
use Rattle.std.specs.Prelude.{ℕ, Bool}
use Rattle.mj_tree.specs.Tree.{above}
use Rattle.mj_types.specs.declared.model.Model.{Model}
use Rattle.mj_types.specs.Parts.{parent_of, body_of}

abbrev pub above_in : Model → ℕ → ℕ → Bool
above_in m = above (parent_of m.bodies) (body_of m.dofs)
