-- What frames hold, as functions of a place, and the ranges that later parts of a step rely on.
use Rattle.std.specs.Prelude.{ℕ, ◌^◌, ◌<◌, ◌≤◌, ℤ, unsigned_abs, List, length, slice_index_or}
use Rattle.fx_vec.specs.Vectors.{Triple}
use Rattle.fx_vec.specs.Spatial.{Spatial, Inertia}
use Rattle.fx_vec.specs.Quaternions.{Quaternion, quaternion}
use Rattle.fx_vec.specs.Views.{mids, spatial, inertia}
use Rattle.fx_vec.specs.Sizes.{Within, Within6}
use Rattle.fx_vec.specs.declared.vector.Vector3.{Vector3}
use Rattle.fx_vec.specs.declared.vector.Vector6.{Vector6}
use Rattle.fx_vec.specs.declared.vector.Q4.{Q4}
use Rattle.fx_vec.specs.declared.inertia.Inertia10.{Inertia10}
use Rattle.mj_types.specs.declared.carriers.Frames.{Frames}
use Rattle.mj_types.specs.declared.model.Model.{Model}
use Rattle.mj_types.specs.Parts.{no_vector, no_quaternion, no_motion, no_inertia}
use Rattle.mj_types.specs.Rooms.{FramesRoom}

-- ---- lists as functions of a place
abbrev pub vector_at : {F : ℕ} → List (Vector3 (Unit {0}) F) → ℕ → Triple ℤ
vector_at xs i = mids (slice_index_or xs i no_vector)

abbrev pub quaternion_at : List Q4 → ℕ → Quaternion
quaternion_at xs i = quaternion (slice_index_or xs i no_quaternion)

abbrev pub spatial_at : {F : ℕ} → List (Vector6 (Unit {0}) F) → ℕ → Spatial ℤ
spatial_at xs i = spatial (slice_index_or xs i no_motion)

abbrev pub inertia_at : List Inertia10 → ℕ → Inertia
inertia_at xs i = inertia (slice_index_or xs i no_inertia)

-- ---- where everything is: of each body its position, orientation, centre of mass and inertia, of each dof its
-- motion column, of each geom its position and orientation
pub record Placing : Type 0 where
  pub position : ℕ → Triple ℤ
  pub orientation : ℕ → Quaternion
  pub center : ℕ → Triple ℤ
  pub inertia : ℕ → Inertia
  pub column : ℕ → Spatial ℤ
  pub geom_position : ℕ → Triple ℤ
  pub geom_orientation : ℕ → Quaternion

abbrev pub placing_of : Frames → Placing
placing_of f = record {
  position = vector_at f.pos;
  orientation = quaternion_at f.quat;
  center = vector_at f.com;
  inertia = inertia_at f.inertia;
  column = spatial_at f.column;
  geom_position = vector_at f.gpos;
  geom_orientation = quaternion_at f.gquat;
}

-- ---- ranges
-- each number of an inertia is at most that in size
pub record WithinInertia (i : Inertia) (limit : ℕ) : Type 0 where
  pub row_x : Within i.row_x limit
  pub row_y : Within i.row_y limit
  pub row_z : Within i.row_z limit
  pub moment : Within i.moment limit
  pub mass : unsigned_abs i.mass ≤ limit

-- frames that a state's were written into without a number out of range
pub record AreFrames (m : Model) (f : Frames) : Type 0 where
  pub room : FramesRoom m f
  pub position : (b : ℕ) → b < length m.bodies → Within (vector_at f.pos b) (2 ^ 44)
  pub inertia : (b : ℕ) → b < length m.bodies → WithinInertia (inertia_at f.inertia b) (2 ^ 62)
  pub column : (d : ℕ) → d < m.nv → Within6 (spatial_at f.column d) (2 ^ 42)
  pub geom_position : (g : ℕ) → g < length m.geoms → Within (vector_at f.gpos g) (2 ^ 46)
