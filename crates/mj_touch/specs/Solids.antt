-- Geoms in their places, and what their numbers keep to. MuJoCo documentation, geom types: a plane's axis is its normal, a capsule's goes along it.
use Rattle.std.specs.Prelude.{◌+◌, ◌^◌, ◌≤◌, ℤ, unsigned_abs}
use Rattle.fx_vec.specs.Vectors.{Triple}
use Rattle.fx_vec.specs.Quaternions.{Quaternion, quaternion}
use Rattle.fx_vec.specs.Sizes.{Within}
use Rattle.fx_vec.specs.Views.{mids}
use Rattle.mj_quat.specs.Rotation.{row_x, row_y, row_z, IsUnit}
use Rattle.mj_types.specs.Lawful.{IsUpTo}
use Rattle.mj_touch.specs.declared.shape.Shape.{Shape}
use Rattle.mj_touch.specs.declared.spheres.Ball.{Ball}

-- a centre, an axis of length 1, and for what is round a radius and half a length
pub record Solid : Type 0 where
  pub center : Triple ℤ
  pub axis : Triple ℤ
  pub radius : ℤ
  pub half : ℤ

-- the own z axis of what q turns: the third column of the rotation's matrix
abbrev pub axis : Quaternion → Triple ℤ
axis q = record { x = (row_x q).z; y = (row_y q).z; z = (row_z q).z }

-- what a shape of the code stands for
abbrev pub solid_of : Shape → Solid
solid_of s = record { center = mids s.center; axis = axis (quaternion s.turn); radius = s.radius.mid; half = s.half.mid }

-- ---- ranges
-- within what a model and its frames allow
pub record IsShape (s : Shape) : Type 0 where
  pub center : Within (mids s.center) (2 ^ 46)
  pub turn : IsUnit (quaternion s.turn)
  pub radius : IsUpTo s.radius (2 ^ 42)
  pub half : IsUpTo s.half (2 ^ 42)

-- a direction: no number of it is more than 16 units past 1
abbrev pub IsDirection : Triple ℤ → Type 0
IsDirection n = Within n (2 ^ 32 + 16)

pub record IsBall (b : Ball) : Type 0 where
  pub center : Within (mids b.center) (2 ^ 47)
  pub radius : unsigned_abs b.radius.mid ≤ 2 ^ 42
