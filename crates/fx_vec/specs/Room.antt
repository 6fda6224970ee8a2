-- When an exact sum has room for what is added to it, and how much its size grows. A rule of this project's own.
use Rattle.std.specs.Prelude.{ℕ, ◌+◌, ◌^◌, ◌<◌, ◌≤◌, ℤ, unsigned_abs}
use Rattle.fx_vec.specs.Vectors.{Triple}
use Rattle.fx_vec.specs.Spatial.{Spatial}

-- each of three sums has room for what is added, by its size
pub record Fits (old : Triple ℤ) (size : Triple ℕ) : Type 0 where
  pub x : unsigned_abs old.x + size.x < 2 ^ 127
  pub y : unsigned_abs old.y + size.y < 2 ^ 127
  pub z : unsigned_abs old.z + size.z < 2 ^ 127

-- and by its width
pub record Narrow (old width : Triple ℕ) : Type 0 where
  pub x : old.x + width.x < 2 ^ 128
  pub y : old.y + width.y < 2 ^ 128
  pub z : old.z + width.z < 2 ^ 128

-- the size of each sum has grown by no more than that of what was added or taken
pub record Grown (old : Triple ℤ) (size : Triple ℕ) (new : Triple ℤ) : Type 0 where
  pub x : unsigned_abs new.x ≤ unsigned_abs old.x + size.x
  pub y : unsigned_abs new.y ≤ unsigned_abs old.y + size.y
  pub z : unsigned_abs new.z ≤ unsigned_abs old.z + size.z

-- the same of six sums
pub record Fits6 (old : Spatial ℤ) (size : Spatial ℕ) : Type 0 where
  pub ang : Fits old.ang size.ang
  pub lin : Fits old.lin size.lin

pub record Narrow6 (old width : Spatial ℕ) : Type 0 where
  pub ang : Narrow old.ang width.ang
  pub lin : Narrow old.lin width.lin

pub record Grown6 (old : Spatial ℤ) (size : Spatial ℕ) (new : Spatial ℤ) : Type 0 where
  pub ang : Grown old.ang size.ang new.ang
  pub lin : Grown old.lin size.lin new.lin
