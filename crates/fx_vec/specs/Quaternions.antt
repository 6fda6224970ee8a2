-- Quaternions, by their real part and the three imaginary ones. The usual definition.
use Rattle.std.specs.Prelude.{ℕ, ◌≤◌, ℤ, unsigned_abs}
use Rattle.fx_vec.specs.declared.vector.Q4.{Q4}

pub record Quaternion : Type 0 where
  pub w : ℤ
  pub x : ℤ
  pub y : ℤ
  pub z : ℤ

-- the numbers of a quaternion of the code
abbrev pub quaternion : Q4 → Quaternion
quaternion q = record { w = q.w.mid; x = q.x.mid; y = q.y.mid; z = q.z.mid }

-- each number of it is at most that in size
pub record WithinQuaternion (q : Quaternion) (limit : ℕ) : Type 0 where
  pub w : unsigned_abs q.w ≤ limit
  pub x : unsigned_abs q.x ≤ limit
  pub y : unsigned_abs q.y ≤ limit
  pub z : unsigned_abs q.z ≤ limit
