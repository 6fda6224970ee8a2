-- The first n joints with their places, and how many positions and velocities they have.
use Rattle.std.specs.Prelude.{◌≡◌, ℕ, ◌<◌, ◌≤◌, List, length}
use Rattle.mj_types.specs.declared.parts.Joint.{Joint}
use Rattle.mj_types.specs.Lawful.{positions_before, velocities_before}
use Rattle.mj_types.specs.Parts.{joint}
use Rattle.mj_layout.specs.declared.layout.BodyParts.{BodyParts}
use Rattle.mj_layout.specs.declared.layout.Placed.{Placed}
use Rattle.mj_layout.specs.Layout.{listed, placed_joint, part, joints_on}

pub record IsPlaced (joints : List Joint) (n : ℕ) (p : Placed) : Type 0 where
  pub joints_ : p.joints.items ≡ listed n (placed_joint joints)
  pub nq : p.nq ≡ positions_before joints n
  pub nv : p.nv ≡ velocities_before joints n

-- each joint has the places of its velocities, of which there are nv
pub record HasPlaces (joints : List Joint) (nv : ℕ) : Type 0 where
  pub each : (k : ℕ) → k < length joints → (joint joints k).dadr ≡ velocities_before joints k
  pub all : nv ≡ velocities_before joints (length joints)
  pub small : (k : ℕ) → k < length joints → (joint joints k).dadr ≤ 512

-- bodies that can be numbered: parents come first, and there are few bodies and joints
pub record IsLaidOut (parts : List BodyParts) : Type 0 where
  pub parents : (b : ℕ) → b < length parts → (part parts b).body.parent ≤ b
  pub few : length parts ≤ 128
  pub few_joints : length (joints_on parts) ≤ 64
