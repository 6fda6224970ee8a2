-- Which exact vectors a vector with radii covers: each coordinate covers its own, over one power of two.
use Rattle.std.specs.Prelude.{ℕ, ◌^◌, ℤ, pos, ◌*ℤ◌}
use Rattle.fx_near.specs.Covers.{Covers}
use Rattle.fx_vec.specs.Vectors.{Triple}
use Rattle.fx_vec.specs.Spatial.{Spatial}

-- mid and radius, at scale f, cover exact / 2^g
pub record Covers3 (mid : Triple ℤ) (radius : Triple ℕ) (f : ℕ) (exact : Triple ℤ) (g : ℕ) : Type 0 where
  pub x : Covers mid.x radius.x f exact.x (2 ^ g)
  pub y : Covers mid.y radius.y f exact.y (2 ^ g)
  pub z : Covers mid.z radius.z f exact.z (2 ^ g)

-- the same of a spatial vector
pub record Covers6 (mid : Spatial ℤ) (radius : Spatial ℕ) (f : ℕ) (exact : Spatial ℤ) (g : ℕ) : Type 0 where
  pub ang : Covers3 mid.ang radius.ang f exact.ang g
  pub lin : Covers3 mid.lin radius.lin f exact.lin g

-- the same exact vector over a power that is greater by k
abbrev pub raised3 : Triple ℤ → ℕ → Triple ℤ
raised3 v k = record { x = v.x *ℤ pos (2 ^ k); y = v.y *ℤ pos (2 ^ k); z = v.z *ℤ pos (2 ^ k) }

abbrev pub raised6 : Spatial ℤ → ℕ → Spatial ℤ
raised6 s k = record { ang = raised3 s.ang k; lin = raised3 s.lin k }
