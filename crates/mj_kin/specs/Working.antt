-- What the carriers hold while they are filled: the poses of the first bodies, the anchors and directions of the first joints. Of this
-- project's own.
use Rattle.std.specs.Prelude.{◌≡◌, ◌≢◌, ℕ, ◌==◌, if◌then◌else◌, ◌+◌, ◌-◌, ◌^◌, ◌<◌, ◌≤◌, unsigned_abs, List, length}
use Rattle.fx_vec.specs.Vectors.{Triple}
use Rattle.fx_vec.specs.Spatial.{Inertia}
use Rattle.std.specs.Prelude.{ℤ}
use Rattle.fx_vec.specs.Quaternions.{WithinQuaternion, quaternion}
use Rattle.fx_vec.specs.Sizes.{Within, Within6}
use Rattle.fx_vec.specs.Views.{mids}
use Rattle.fx_vec.specs.declared.vector.Vector3.{Vector3}
use Rattle.fx_vec.specs.declared.vector.Vector6.{Vector6}
use Rattle.fx_vec.specs.declared.vector.Q4.{Q4}
use Rattle.fx_vec.specs.declared.inertia.Inertia10.{Inertia10}
use Rattle.mj_types.specs.declared.model.Model.{Model}
use Rattle.mj_types.specs.declared.state.State.{State}
use Rattle.mj_types.specs.declared.carriers.Frames.{Frames}
use Rattle.mj_types.specs.declared.parts.Joint.{Joint}
use Rattle.fx_whole.specs.Sums.{sum_ℕ_to}
use Rattle.mj_types.specs.Parts.{body, joint, number_at, position_count, velocity_count}
use Rattle.mj_types.specs.Lawful.{position_limit}
use Rattle.mj_types.specs.Placed.{vector_at, quaternion_at, spatial_at, inertia_at}
use Rattle.mj_kin.specs.declared.frame.Frame.{Frame}
use Rattle.mj_quat.specs.Rotation.{matrix, IsUnit}
use Rattle.mj_kin.specs.Placings.{geom_pose}
use Rattle.mj_kin.specs.Poses.{Pose, world, pose, anchor, axis}
use Rattle.mj_kin.specs.Bodies.{center, body_inertia}
use Rattle.mj_kin.specs.Columns.{joint_anchor, joint_direction, direction, dof_direction, column}

-- what a frame of the code stands for
abbrev pub pose_of : Frame → Pose
pose_of f = record { position = mids f.pos; orientation = quaternion f.quat }

-- the pose of a body by its number, from the lists of those of bodies 1, 2, ..
abbrev pub entry_pose : List (Vector3 (Unit {0}) 32) → List Q4 → ℕ → Pose
entry_pose positions orientations b = record { position = vector_at positions b; orientation = quaternion_at orientations b }

abbrev pub listed_pose : List (Vector3 (Unit {0}) 32) → List Q4 → ℕ → Pose
listed_pose positions orientations k = if k == 0 then world else entry_pose positions orientations (k - 1)

-- each of the first n entries has a place and an orientation that a body may have
pub record AreNear (positions : List (Vector3 (Unit {0}) 32)) (orientations : List Q4) (n : ℕ) : Type 0 where
  pub near : (b : ℕ) → b < n → Within (vector_at positions b) (2 ^ 44)
  pub small : (b : ℕ) → b < n → WithinQuaternion (quaternion_at orientations b) (2 ^ 32)

-- the first n bodies have their poses in the lists
pub record ArePosed (m : Model) (s : State) (positions : List (Vector3 (Unit {0}) 32)) (orientations : List Q4) (n : ℕ) : Type 0 where
  pub poses : (b : ℕ) → b < n → entry_pose positions orientations b ≡ pose m s (b + 1)
  pub near : AreNear positions orientations n

-- their centres of mass and inertias
pub record AreMassed (m : Model) (s : State) (centers : List (Vector3 (Unit {0}) 32)) (inertias : List Inertia10) (n : ℕ) : Type 0 where
  pub centers_ : (b : ℕ) → b < n → vector_at centers b ≡ center m s b
  pub inertias_ : (b : ℕ) → b < n → inertia_at inertias b ≡ body_inertia m s b

-- the first n joints have their anchors in one list, and their dofs' directions in the other
pub record AreMarked (m : Model) (s : State) (anchors : List (Vector3 (Unit {0}) 32)) (directions : List (Vector6 (Unit {0}) 32)) (n : ℕ) : Type 0 where
  pub anchors_ : (j : ℕ) → j < n → vector_at anchors j ≡ joint_anchor m s j
  pub near : (j : ℕ) → j < n → Within (vector_at anchors j) (2 ^ 54)
  pub directions_ : (j i : ℕ) → j < n → i < velocity_count (joint m.joints j).kind
      → spatial_at directions ((joint m.joints j).dadr + i) ≡ joint_direction m s j i
  pub small : (j i : ℕ) → j < n → i < velocity_count (joint m.joints j).kind
      → Within6 (spatial_at directions ((joint m.joints j).dadr + i)) (2 ^ 35)

-- the positions of a joint are there, each within its limit
pub record HasPositions (s : State) (j : Joint) : Type 0 where
  pub there : (i : ℕ) → i < position_count j.kind → j.qadr + i < length s.q
  pub size : (i : ℕ) → i < position_count j.kind → unsigned_abs (number_at s.q (j.qadr + i)) ≤ position_limit j.kind i

-- how many joints the bodies before place b have
abbrev pub joints_before : Model → ℕ → ℕ
joints_before m b = sum_ℕ_to b (λ a. (body m.bodies a).jntnum)

-- what joint j, which moves its body from one pose to the other, writes into the lists
pub record MarksJoint (jt : Joint) (j : ℕ) (before after : Pose) (anchors : List (Vector3 (Unit {0}) 32)) (anchors' : List (Vector3 (Unit {0}) 32)) (directions : List (Vector6 (Unit {0}) 32)) (directions' : List (Vector6 (Unit {0}) 32)) : Type 0 where
  pub anchor_ : vector_at anchors' j ≡ anchor jt before
  pub near : Within (vector_at anchors' j) (2 ^ 54)
  pub others : (k : ℕ) → k ≢ j → vector_at anchors' k ≡ vector_at anchors k
  pub directions_ : (i : ℕ) → i < velocity_count jt.kind → spatial_at directions' (jt.dadr + i) ≡ direction jt.kind i (axis jt before) (matrix after.orientation)
  pub small : (i : ℕ) → i < velocity_count jt.kind → Within6 (spatial_at directions' (jt.dadr + i)) (2 ^ 35)
  pub earlier : (d : ℕ) → d < jt.dadr → spatial_at directions' d ≡ spatial_at directions d

-- bodies up to b: their poses, what has mass, and what their joints left
pub record ArePlaced (m : Model) (s : State) (f : Frames) (b : ℕ) : Type 0 where
  pub posed : ArePosed m s f.pos f.quat b
  pub massed : AreMassed m s f.com f.inertia b
  pub marked : AreMarked m s f.anchor f.column (joints_before m b)

-- body b + 1 is written: its pose, its centre of mass and its inertia; nothing else changes
pub record WritesBody (b : ℕ) (p : Pose) (c : Triple ℤ) (i : Inertia) (old : Frames) (new : Frames) : Type 0 where
  pub pose_ : entry_pose new.pos new.quat b ≡ p
  pub poses : (k : ℕ) → k ≢ b → entry_pose new.pos new.quat k ≡ entry_pose old.pos old.quat k
  pub center_ : vector_at new.com b ≡ c
  pub centers_ : (k : ℕ) → k ≢ b → vector_at new.com k ≡ vector_at old.com k
  pub inertia_ : inertia_at new.inertia b ≡ i
  pub inertias_ : (k : ℕ) → k ≢ b → inertia_at new.inertia k ≡ inertia_at old.inertia k
  pub anchors_ : new.anchor ≡ old.anchor
  pub directions_ : new.column ≡ old.column

-- the first n geoms have their poses in the lists
pub record AreSet (m : Model) (s : State) (positions : List (Vector3 (Unit {0}) 32)) (orientations : List Q4) (n : ℕ) : Type 0 where
  pub poses : (g : ℕ) → g < n → entry_pose positions orientations g ≡ geom_pose m s g
  pub near : (g : ℕ) → g < n → Within (vector_at positions g) (2 ^ 46)
  pub units : (g : ℕ) → g < n → IsUnit (quaternion_at orientations g)

-- the first n columns are made, those from there on still hold the directions
pub record AreColumns (m : Model) (s : State) (columns : List (Vector6 (Unit {0}) 32)) (n : ℕ) : Type 0 where
  pub made : (d : ℕ) → d < n → spatial_at columns d ≡ column m s d
  pub within : (d : ℕ) → d < n → Within6 (spatial_at columns d) (2 ^ 42)
  pub directed : (d : ℕ) → n ≤ d → d < m.nv → spatial_at columns d ≡ dof_direction m s d
  pub small : (d : ℕ) → n ≤ d → d < m.nv → Within6 (spatial_at columns d) (2 ^ 35)

-- the places of all bodies, and the anchors of all joints
pub record ArePoints (m : Model) (s : State) (positions : List (Vector3 (Unit {0}) 32)) : Type 0 where
  pub points : (b : ℕ) → b < length m.bodies → vector_at positions b ≡ (pose m s (b + 1)).position
  pub near : (b : ℕ) → b < length m.bodies → Within (vector_at positions b) (2 ^ 44)

pub record AreAnchors (m : Model) (s : State) (anchors : List (Vector3 (Unit {0}) 32)) : Type 0 where
  pub anchors_ : (j : ℕ) → j < length m.joints → vector_at anchors j ≡ joint_anchor m s j
  pub near : (j : ℕ) → j < length m.joints → Within (vector_at anchors j) (2 ^ 54)
