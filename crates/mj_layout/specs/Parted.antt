-- What is asked of bodies with their joints and geoms, so that their lists are a model's.
use Rattle.std.specs.Prelude.{◌≡◌, ℕ, suc, ◌<◌, ◌≤◌, false, IsTrue, List, length}
use Rattle.mj_types.specs.declared.parts.Geom.{Geom}
use Rattle.mj_types.specs.Parts.{joint, geom}
use Rattle.mj_types.specs.Lawful.{IsBody, IsJoint, IsGeom, is_free, is_plane, velocities_before}
use Rattle.mj_layout.specs.declared.layout.BodyParts.{BodyParts}
use Rattle.mj_layout.specs.Layout.{part, joints_on}

-- the parts of the body at place b
pub record IsParted (b : ℕ) (p : BodyParts) : Type 0 where
  pub body_ : IsBody p.body
  pub parent : p.body.parent ≤ b
  pub joint_ : (i : ℕ) → i < length p.joints → IsJoint (joint p.joints i)
  pub owned : (i : ℕ) → i < length p.joints → (joint p.joints i).body ≡ suc b
  pub alone : (i : ℕ) → i < length p.joints → IsTrue (is_free (joint p.joints i).kind) → length p.joints ≡ 1
  pub rooted : (i : ℕ) → i < length p.joints → IsTrue (is_free (joint p.joints i).kind) → p.body.parent ≡ 0
  pub geom_ : (i : ℕ) → i < length p.geoms → IsGeom (geom p.geoms i)
  pub worn : (i : ℕ) → i < length p.geoms → (geom p.geoms i).body ≡ suc b
  pub no_plane : (i : ℕ) → i < length p.geoms → is_plane (geom p.geoms i).kind ≡ false

pub record AreParted (parts : List BodyParts) : Type 0 where
  pub few : length parts ≤ 128
  pub each : (b : ℕ) → b < length parts → IsParted b (part parts b)
  pub some_dof : 1 ≤ velocities_before (joints_on parts) (length (joints_on parts))
  pub few_dofs : velocities_before (joints_on parts) (length (joints_on parts)) ≤ 64

pub record AreWorldly (world : List Geom) : Type 0 where
  pub each : (i : ℕ) → i < length world → IsGeom (geom world i)
  pub worn : (i : ℕ) → i < length world → (geom world i).body ≡ 0
