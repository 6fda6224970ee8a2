-- The sizes of products of vectors: the formula with each term replaced by its absolute value. A rule of this project's own.
use Rattle.std.specs.Prelude.{ℕ, ◌+◌, ◌*◌, ◌≤◌, ℤ, unsigned_abs}
use Rattle.fx_vec.specs.Vectors.{Triple}
use Rattle.fx_vec.specs.Spatial.{Spatial, Inertia}

-- each coordinate is at most that in size
pub record Within (a : Triple ℤ) (limit : ℕ) : Type 0 where
  pub x : unsigned_abs a.x ≤ limit
  pub y : unsigned_abs a.y ≤ limit
  pub z : unsigned_abs a.z ≤ limit

-- the same of sizes and of radii
pub record Below (a : Triple ℕ) (limit : ℕ) : Type 0 where
  pub x : a.x ≤ limit
  pub y : a.y ≤ limit
  pub z : a.z ≤ limit

-- the same of spatial vectors
pub record Within6 (a : Spatial ℤ) (limit : ℕ) : Type 0 where
  pub ang : Within a.ang limit
  pub lin : Within a.lin limit

pub record Below6 (a : Spatial ℕ) (limit : ℕ) : Type 0 where
  pub ang : Below a.ang limit
  pub lin : Below a.lin limit

-- the sizes of the coordinates
abbrev pub sizes_of : Triple ℤ → Triple ℕ
sizes_of a = record { x = unsigned_abs a.x; y = unsigned_abs a.y; z = unsigned_abs a.z }

abbrev pub sizes6_of : Spatial ℤ → Spatial ℕ
sizes6_of a = record { ang = sizes_of a.ang; lin = sizes_of a.lin }

abbrev pub dot_size : Triple ℤ → Triple ℤ → ℕ
dot_size a b = unsigned_abs a.x * unsigned_abs b.x + unsigned_abs a.y * unsigned_abs b.y + unsigned_abs a.z * unsigned_abs b.z

abbrev pub cross_size : Triple ℤ → Triple ℤ → Triple ℕ
cross_size a b = record {
  x = unsigned_abs a.y * unsigned_abs b.z + unsigned_abs a.z * unsigned_abs b.y;
  y = unsigned_abs a.z * unsigned_abs b.x + unsigned_abs a.x * unsigned_abs b.z;
  z = unsigned_abs a.x * unsigned_abs b.y + unsigned_abs a.y * unsigned_abs b.x;
}

abbrev pub plus_size : Triple ℕ → Triple ℕ → Triple ℕ
plus_size a b = record { x = a.x + b.x; y = a.y + b.y; z = a.z + b.z }

abbrev pub no_size : Triple ℕ
no_size = record { x = 0; y = 0; z = 0 }

abbrev pub plus6_size : Spatial ℕ → Spatial ℕ → Spatial ℕ
plus6_size a b = record { ang = plus_size a.ang b.ang; lin = plus_size a.lin b.lin }

abbrev pub no_size6 : Spatial ℕ
no_size6 = record { ang = no_size; lin = no_size }

abbrev pub times_size : ℤ → Triple ℤ → Triple ℕ
times_size k a = record { x = unsigned_abs k * unsigned_abs a.x; y = unsigned_abs k * unsigned_abs a.y; z = unsigned_abs k * unsigned_abs a.z }

abbrev pub times6_size : ℤ → Spatial ℤ → Spatial ℕ
times6_size k a = record { ang = times_size k a.ang; lin = times_size k a.lin }

abbrev pub pair_size : Spatial ℤ → Spatial ℤ → ℕ
pair_size s f = dot_size s.ang f.ang + dot_size s.lin f.lin

abbrev pub motion_cross_size : Spatial ℤ → Spatial ℤ → Spatial ℕ
motion_cross_size v s = record { ang = cross_size v.ang s.ang; lin = plus_size (cross_size v.lin s.ang) (cross_size v.ang s.lin) }

abbrev pub force_cross_size : Spatial ℤ → Spatial ℤ → Spatial ℕ
force_cross_size v f = record { ang = plus_size (cross_size v.ang f.ang) (cross_size v.lin f.lin); lin = cross_size v.ang f.lin }

abbrev pub turned_size : Inertia → Triple ℤ → Triple ℕ
turned_size i w = record { x = dot_size i.row_x w; y = dot_size i.row_y w; z = dot_size i.row_z w }

abbrev pub inertia_size : Inertia → Spatial ℤ → Spatial ℕ
inertia_size i s = record {
  ang = plus_size (turned_size i s.ang) (cross_size i.moment s.lin);
  lin = plus_size (times_size i.mass s.lin) (cross_size i.moment s.ang);
}
