-- Vectors that are rounded to a lower scale, coordinate by coordinate. A rule of this project's own.
use Rattle.std.specs.Prelude.{ℕ, ◌^◌, ℤ, pos, ◌+ℤ◌, ◌*ℤ◌, Option}
use Rattle.fx_whole.specs.First.{or_first}
use Rattle.fx_num.specs.Settled.{settled_mid, rounding_loss, over}
use Rattle.fx_num.specs.declared.carry.Over.{Over}
use Rattle.fx_vec.specs.Vectors.{Triple, dot}
use Rattle.fx_vec.specs.Spatial.{Spatial}

-- three sums divided by 2^shift and rounded
abbrev pub settled3 : Triple ℤ → ℕ → Triple ℤ
settled3 v shift = record { x = settled_mid v.x shift; y = settled_mid v.y shift; z = settled_mid v.z shift }

abbrev pub settled6 : Spatial ℤ → ℕ → Spatial ℤ
settled6 s shift = record { ang = settled3 s.ang shift; lin = settled3 s.lin shift }

-- their radii, by the kind's rule for a width, a loss and a shift
abbrev pub radius_by : (ℕ → ℕ → ℕ → ℕ) → ℤ → ℕ → ℕ → ℕ
radius_by rule sum width shift = rule width (rounding_loss sum shift) shift

abbrev pub radii3 : (ℕ → ℕ → ℕ → ℕ) → Triple ℤ → Triple ℕ → ℕ → Triple ℕ
radii3 rule v w shift = record {
  x = radius_by rule v.x w.x shift;
  y = radius_by rule v.y w.y shift;
  z = radius_by rule v.z w.z shift;
}

abbrev pub radii6 : (ℕ → ℕ → ℕ → ℕ) → Spatial ℤ → Spatial ℕ → ℕ → Spatial ℕ
radii6 rule s w shift = record { ang = radii3 rule s.ang w.ang shift; lin = radii3 rule s.lin w.lin shift }

-- the first limit that a number passes: x before y before z, of each the value before the radius
abbrev pub over3 : ℕ → Triple ℤ → Triple ℕ → Option Over
over3 limit v r = or_first (over limit v.x r.x) (or_first (over limit v.y r.y) (over limit v.z r.z))

-- the angular part before the linear one
abbrev pub over6 : ℕ → Spatial ℤ → Spatial ℕ → Option Over
over6 limit s r = or_first (over3 limit s.ang r.ang) (over3 limit s.lin r.lin)

-- ---- products of vectors at scale 32, each number rounded once
-- k n
abbrev pub stretched : Triple ℤ → ℤ → Triple ℤ
stretched n k = record { x = settled_mid (n.x *ℤ k) 32; y = settled_mid (n.y *ℤ k) 32; z = settled_mid (n.z *ℤ k) 32 }

-- c + k n: one exact sum, and one rounding
abbrev pub moved_one : ℤ → ℤ → ℤ → ℤ
moved_one c n k = settled_mid (c *ℤ pos (2 ^ 32) +ℤ n *ℤ k) 32

abbrev pub moved : Triple ℤ → Triple ℤ → ℤ → Triple ℤ
moved c n k = record { x = moved_one c.x n.x k; y = moved_one c.y n.y k; z = moved_one c.z n.z k }

-- a . d, how far d goes along a
abbrev pub along : Triple ℤ → Triple ℤ → ℤ
along a d = settled_mid (dot a d) 32
