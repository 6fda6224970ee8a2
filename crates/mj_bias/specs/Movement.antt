-- What bias forces are made from: the tree of bodies and dofs, their inertias and motion columns, the velocities and gravity.
use Rattle.std.specs.Prelude.{ℕ, ◌-◌, Bool, ◌&&◌, nat_lt, ℤ, length}
use Rattle.fx_vec.specs.Vectors.{Triple}
use Rattle.fx_vec.specs.Spatial.{Spatial, Inertia}
use Rattle.fx_vec.specs.Views.{mids}
use Rattle.mj_types.specs.declared.model.Model.{Model}
use Rattle.mj_types.specs.Lawful.{is_free}
use Rattle.mj_types.specs.Parts.{dof, joint, parent_of, body_of}
use Rattle.mj_types.specs.Placed.{Placing}

-- dofs by their places, from 0; of bodies the world is 0 and body b + 1 is at the place b
pub record Movement : Type 0 where
  pub bodies : ℕ
  pub dofs : ℕ
  -- the number of a body's parent, and of a dof's body
  pub parent : ℕ → ℕ
  pub body : ℕ → ℕ
  -- the first dof that moves together with this one
  pub base : ℕ → ℕ
  -- whether a dof's column is the same in all positions
  pub constant : ℕ → Bool
  pub column : ℕ → Spatial ℤ
  pub inertia : ℕ → Inertia
  pub speed : ℕ → ℤ
  pub gravity : Triple ℤ

-- a translation of a free joint, along an axis of the world
abbrev pub is_translation : Model → ℕ → Bool
is_translation m j = is_free (joint m.joints ((dof m.dofs j).joint - 1)).kind && nat_lt (dof m.dofs j).part 3

-- that of a model whose bodies are placed so and whose dofs have these velocities
abbrev pub movement_of : Model → Placing → (ℕ → ℤ) → Movement
movement_of m placing speed = record {
  bodies = length m.bodies;
  dofs = m.nv;
  parent = parent_of m.bodies;
  body = body_of m.dofs;
  base = λ j. (dof m.dofs j).base;
  constant = is_translation m;
  column = placing.column;
  inertia = placing.inertia;
  speed = speed;
  gravity = mids m.gravity;
}
