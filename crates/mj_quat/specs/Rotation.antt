-- Rotations by quaternions (w, x, y, z) at scale 32, each number rounded once. The usual formulas (the
-- Hamilton product, a rotation's matrix, its axis and angle), rounded by this project's own rule.
use Rattle.std.specs.Prelude.{◌^◌, ◌+◌, ◌≤◌, ℕ, ℤ, pos, ◌+ℤ◌, ◌-ℤ◌, ◌*ℤ◌, unsigned_abs, Bool, ◌&&◌, cond, int_le, int_lt, Option, Some, None}
use Rattle.fx_whole.specs.Nearest.{nearest}
use Rattle.fx_whole.specs.Roots.{isqrt}
pub use Rattle.fx_num.specs.Scalars.{round, over}
use Rattle.fx_num.specs.declared.carry.Over.{Over}
use Rattle.fx_num.specs.declared.carry.Over.TheVariants.{Value}
use Rattle.fx_vec.specs.Vectors.{Triple, dot}
use Rattle.fx_vec.specs.Settling.{stretched, along}
use Rattle.fx_vec.specs.Sizes.{Within}
use Rattle.fx_vec.specs.Views.{mids}
use Rattle.fx_vec.specs.declared.vector.M3.{M3}
pub use Rattle.fx_vec.specs.Quaternions.{Quaternion, quaternion, WithinQuaternion}
use Rattle.mj_quat.specs.Sine.{sine, cosine}

-- the Hamilton product a b
unfoldable pub product : Quaternion → Quaternion → Quaternion
product a b = record {
  w = round (a.w *ℤ b.w -ℤ a.x *ℤ b.x -ℤ a.y *ℤ b.y -ℤ a.z *ℤ b.z);
  x = round (a.w *ℤ b.x +ℤ a.x *ℤ b.w +ℤ a.y *ℤ b.z -ℤ a.z *ℤ b.y);
  y = round (a.w *ℤ b.y -ℤ a.x *ℤ b.z +ℤ a.y *ℤ b.w +ℤ a.z *ℤ b.x);
  z = round (a.w *ℤ b.z +ℤ a.x *ℤ b.y -ℤ a.y *ℤ b.x +ℤ a.z *ℤ b.w);
}

-- ---- matrices
-- the rows of a matrix of the code
abbrev pub rows : M3 → Triple (Triple ℤ)
rows m = record { x = mids m.a; y = mids m.b; z = mids m.c }

-- the rotation's matrix, by its rows
unfoldable pub row_x : Quaternion → Triple ℤ
row_x q = record {
  x = round (pos (2 ^ 64) -ℤ pos 2 *ℤ (q.y *ℤ q.y +ℤ q.z *ℤ q.z));
  y = round (pos 2 *ℤ (q.x *ℤ q.y -ℤ q.w *ℤ q.z));
  z = round (pos 2 *ℤ (q.x *ℤ q.z +ℤ q.w *ℤ q.y));
}

unfoldable pub row_y : Quaternion → Triple ℤ
row_y q = record {
  x = round (pos 2 *ℤ (q.x *ℤ q.y +ℤ q.w *ℤ q.z));
  y = round (pos (2 ^ 64) -ℤ pos 2 *ℤ (q.x *ℤ q.x +ℤ q.z *ℤ q.z));
  z = round (pos 2 *ℤ (q.y *ℤ q.z -ℤ q.w *ℤ q.x));
}

unfoldable pub row_z : Quaternion → Triple ℤ
row_z q = record {
  x = round (pos 2 *ℤ (q.x *ℤ q.z -ℤ q.w *ℤ q.y));
  y = round (pos 2 *ℤ (q.y *ℤ q.z +ℤ q.w *ℤ q.x));
  z = round (pos (2 ^ 64) -ℤ pos 2 *ℤ (q.x *ℤ q.x +ℤ q.y *ℤ q.y));
}

abbrev pub matrix : Quaternion → Triple (Triple ℤ)
matrix q = record { x = row_x q; y = row_y q; z = row_z q }

-- each number of a matrix is at most that in size
pub record WithinRows (m : Triple (Triple ℤ)) (limit : ℕ) : Type 0 where
  pub x : Within m.x limit
  pub y : Within m.y limit
  pub z : Within m.z limit

-- a matrix times v
abbrev pub rotate_by : Triple (Triple ℤ) → Triple ℤ → Triple ℤ
rotate_by m v = record { x = along m.x v; y = along m.y v; z = along m.z v }

-- v rotated by q
abbrev pub rotate : Quaternion → Triple ℤ → Triple ℤ
rotate q v = rotate_by (matrix q) v

-- ---- lengths
-- the square of a quaternion's length, at scale 64
abbrev pub square_sum : Quaternion → ℤ
square_sum q = q.w *ℤ q.w +ℤ q.x *ℤ q.x +ℤ q.y *ℤ q.y +ℤ q.z *ℤ q.z

unfoldable pub quaternion_length : Quaternion → ℤ
quaternion_length q = isqrt (square_sum q)

unfoldable pub vector_length : Triple ℤ → ℤ
vector_length v = isqrt (dot v v)

-- the square of its length is 1, to within 2^-29 and one unit more
pub record IsUnit (q : Quaternion) : Type 0 where
  pub near : unsigned_abs (square_sum q -ℤ pos (2 ^ 64)) ≤ 2 ^ 35 + 1

abbrev pub quaternion_over : Quaternion → ℤ → Quaternion
quaternion_over q length = record {
  w = over q.w length;
  x = over q.x length;
  y = over q.y length;
  z = over q.z length;
}

abbrev pub vector_over : Triple ℤ → ℤ → Triple ℤ
vector_over v length = record { x = over v.x length; y = over v.y length; z = over v.z length }

-- a quaternion and a vector over their own lengths
abbrev pub unit_quaternion : Quaternion → Quaternion
unit_quaternion q = quaternion_over q (quaternion_length q)

abbrev pub unit_vector : Triple ℤ → Triple ℤ
unit_vector v = vector_over v (vector_length v)

-- the refusal of a length that isn't from `least` to `most`
abbrev pub is_inside : ℤ → ℤ → ℤ → Bool
is_inside least most length = int_le least length && int_le length most

abbrev pub length_out : ℤ → ℤ → ℤ → Option Over
length_out least most length = cond (is_inside least most length) None (Some Value)

-- and of one that is below `least`
abbrev pub length_below : ℤ → ℤ → Option Over
length_below least length = cond (int_le least length) None (Some Value)

-- ---- turning
abbrev pub half : ℤ → ℤ
half angle = nearest angle (pos 2)

-- the rotation about an axis by an angle: the cosine of half of it, and the axis times its sine
unfoldable pub axis_angle : Triple ℤ → ℤ → Quaternion
axis_angle axis angle = record {
  w = cosine (half angle);
  x = round (axis.x *ℤ sine (half angle));
  y = round (axis.y *ℤ sine (half angle));
  z = round (axis.z *ℤ sine (half angle));
}

-- q times the rotation with that rotation vector, which isn't 0: the vector's length is the angle
abbrev pub turn : Quaternion → Triple ℤ → Quaternion
turn q v = product q (axis_angle (unit_vector v) (vector_length v))

-- whether a rotation vector has a length, as that is rounded
abbrev pub turns : Triple ℤ → Bool
turns v = int_lt (pos 0) (vector_length v)

-- q after the time h at the angular velocity w, in the frame that turns with q: w h is the rotation vector
abbrev pub advance : Quaternion → Triple ℤ → ℤ → Quaternion
advance q w h = cond (turns (stretched w h)) (unit_quaternion (turn q (stretched w h))) q

-- its refusal: the turned quaternion's length isn't from 1/2 to 2
abbrev pub advance_out : Quaternion → Triple ℤ → ℤ → Option Over
advance_out q w h = cond (turns (stretched w h))
    (length_out (pos (2 ^ 31)) (pos (2 ^ 33)) (quaternion_length (turn q (stretched w h)))) None
