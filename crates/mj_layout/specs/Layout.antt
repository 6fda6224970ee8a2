-- The lists of a model, from its bodies with their joints and geoms: joints and geoms stand in the order of
-- their bodies, positions and velocities in the order of the joints. The usual numbering of MuJoCo.
use Rattle.std.specs.Prelude.{ℕ, suc, ◌+◌, ◌-◌, ◌==◌, cond, List, [], ◌∷◌, ◌++◌, length, slice_index_or}
use Rattle.fx_whole.specs.Sums.{sum_ℕ_to}
use Rattle.fx_whole.specs.Joined.{joined}
use Rattle.fx_whole.specs.Tables.{value}
use Rattle.mj_types.specs.declared.parts.Body.{Body}
use Rattle.mj_types.specs.declared.parts.Joint.{Joint}
use Rattle.mj_types.specs.declared.parts.Dof.{Dof}
use Rattle.mj_types.specs.declared.parts.Geom.{Geom}
use Rattle.mj_types.specs.Parts.{no_body, body, joint, velocity_count, first_part}
use Rattle.mj_types.specs.Lawful.{positions_before, velocities_before}
use Rattle.mj_layout.specs.declared.layout.BodyParts.{BodyParts}
use Rattle.mj_layout.specs.declared.layout.Layout.{Layout}

-- the list of f 0, .., f (n - 1)
abbrev pub listed : {A : Type 0} → ℕ → (ℕ → A) → List A
listed n f = joined n (λ k. f k ∷ [])

abbrev pub no_parts : BodyParts
no_parts = record { body = no_body; joints = []; geoms = [] }

abbrev pub part : List BodyParts → ℕ → BodyParts
part parts b = slice_index_or parts b no_parts

-- the joints of each body in turn
abbrev pub joints_on : List BodyParts → List Joint
joints_on parts = joined (length parts) (λ b. (part parts b).joints)

-- a joint with the places of its positions and velocities
abbrev pub placed_joint : List Joint → ℕ → Joint
placed_joint joints j = record (joint joints j) { qadr = positions_before joints j; dadr = velocities_before joints j }

unfoldable pub placed : List Joint → List Joint
placed joints = listed (length joints) (placed_joint joints)

-- the root of a body's tree, by the body's number: its parent's, or itself on the world
abbrev pub next_root : List BodyParts → ℕ → (ℕ → ℕ) → ℕ
next_root parts b earlier = cond ((part parts b).body.parent == 0) (suc b) (earlier (part parts b).body.parent)

abbrev pub root : List BodyParts → ℕ → ℕ
root parts number = value 0 (next_root parts) number

-- the same from the bodies before
abbrev pub root_from : List Body → ℕ → ℕ → ℕ
root_from made b parent = cond (parent == 0) (suc b) (body made (parent - 1)).root

-- the place of a body's first joint
abbrev pub first_joint : List BodyParts → ℕ → ℕ
first_joint parts b = sum_ℕ_to b (λ a. length (part parts a).joints)

-- a body with its root and the places of its joints and dofs
abbrev pub placed_body : List BodyParts → List Joint → ℕ → Body
placed_body parts joints b = record (part parts b).body {
  root = root parts (suc b);
  jntadr = first_joint parts b;
  jntnum = length (part parts b).joints;
  dofadr = velocities_before joints (first_joint parts b);
  dofnum = velocities_before joints (first_joint parts b + length (part parts b).joints) - velocities_before joints (first_joint parts b);
}

-- the same from the bodies before, and the place of its first joint
abbrev pub body_from : List BodyParts → List Joint → List Body → ℕ → ℕ → Body
body_from parts joints made b place = record (part parts b).body {
  root = root_from made b (part parts b).body.parent;
  jntadr = place;
  jntnum = length (part parts b).joints;
  dofadr = velocities_before joints place;
  dofnum = velocities_before joints (place + length (part parts b).joints) - velocities_before joints place;
}

unfoldable pub bodies_of : List BodyParts → List Joint → List Body
bodies_of parts joints = listed (length parts) (placed_body parts joints)

-- the dofs of a joint with that number, and of each joint in turn
abbrev pub dof_of : ℕ → Joint → ℕ → Dof
dof_of number x i = record { joint = number; part = i; body = x.body; base = x.dadr + first_part x.kind i }

abbrev pub dofs_on : ℕ → Joint → List Dof
dofs_on number x = listed (velocity_count x.kind) (dof_of number x)

unfoldable pub dofs_of : List Joint → List Dof
dofs_of joints = joined (length joints) (λ j. dofs_on (suc j) (joint joints j))

-- the world's geoms, and those of each body in turn
unfoldable pub geoms_of : List Geom → List BodyParts → List Geom
geoms_of world parts = world ++ joined (length parts) (λ b. (part parts b).geoms)

unfoldable pub layout : List BodyParts → List Geom → Layout
layout parts world = record {
  bodies = bodies_of parts (placed (joints_on parts));
  joints = placed (joints_on parts);
  dofs = dofs_of (placed (joints_on parts));
  geoms = geoms_of world parts;
  nq = positions_before (joints_on parts) (length (joints_on parts));
  nv = velocities_before (joints_on parts) (length (joints_on parts));
}
