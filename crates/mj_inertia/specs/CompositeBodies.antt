-- The inertia of a body and of all bodies below it, taken as one rigid body. Featherstone, Rigid Body
-- Dynamics Algorithms, chapter 6.
use Rattle.std.specs.Prelude.{◌≡◌, ℕ, suc, ◌^◌, ◌<◌, Bool, length}
use Rattle.fx_whole.specs.Adding.{sum_in, when_in}
use Rattle.fx_vec.specs.Spatial.{Inertia}
use Rattle.fx_vec.specs.Sums.{inertias}
use Rattle.mj_tree.specs.Tree.{at_or_above}
use Rattle.mj_types.specs.declared.carriers.Composite.{Composite}
use Rattle.mj_types.specs.declared.model.Model.{Model}
use Rattle.mj_types.specs.Parts.{parent_of}
use Rattle.mj_types.specs.Placed.{inertia_at, WithinInertia}
use Rattle.mj_types.specs.Rooms.{CompositeRoom}

-- by their places, from 0: whether body k is body b or below it
abbrev pub is_under : Model → ℕ → ℕ → Bool
is_under m b k = at_or_above (parent_of m.bodies) (suc b) (suc k)

-- the sum over all bodies that are b or below b
unfoldable pub composite : Model → (ℕ → Inertia) → ℕ → Inertia
composite m inertia b = sum_in inertias (length m.bodies) (λ k. when_in inertias (is_under m b k) (inertia k))

-- each entry is that sum
pub record IsCompositeOf (m : Model) (inertia : ℕ → Inertia) (c : Composite) : Type 0 where
  pub sums : (b : ℕ) → b < length m.bodies → inertia_at c.list b ≡ composite m inertia b

-- entries of the size that the inertias of 128 bodies come to
pub record AreComposites (m : Model) (c : Composite) : Type 0 where
  pub room : CompositeRoom m c
  pub small : (b : ℕ) → b < length m.bodies → WithinInertia (inertia_at c.list b) (2 ^ 69)
