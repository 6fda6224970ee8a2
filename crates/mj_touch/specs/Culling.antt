-- When two geoms are so far apart that no margin reaches: told by their centres' coordinates alone, with no product. A rule of this project's own.
use Rattle.std.specs.Prelude.{◌^◌, ℤ, pos, ◌+ℤ◌, ◌-ℤ◌, unsigned_abs, int_lt, Bool, not, ◌&&◌, ◌||◌}
use Rattle.fx_vec.specs.Vectors.{Triple}
use Rattle.mj_types.specs.Lawful.{is_plane}
use Rattle.mj_touch.specs.declared.shape.Shape.{Shape}
use Rattle.mj_touch.specs.Solids.{Solid, solid_of}

-- how far from its centre a geom goes in a coordinate: its axis isn't quite a unit, and its end is rounded
abbrev pub reach : Solid → ℤ
reach a = a.radius +ℤ a.half +ℤ pos (2 ^ 15)

abbrev pub limit : Solid → Solid → ℤ → ℤ
limit a b margin = reach a +ℤ reach b +ℤ margin

-- whether two numbers are farther apart than that
abbrev pub is_apart : ℤ → ℤ → ℤ → Bool
is_apart most x y = int_lt most (pos (unsigned_abs (y -ℤ x)))

abbrev pub are_apart : ℤ → Triple ℤ → Triple ℤ → Bool
are_apart most c e = is_apart most c.x e.x || (is_apart most c.y e.y || is_apart most c.z e.z)

-- whether a pair can be left out: a plane goes everywhere
abbrev pub can_skip : Shape → Shape → ℤ → Bool
can_skip a b margin = not (is_plane a.kind) && are_apart (limit (solid_of a) (solid_of b) margin) (solid_of a).center (solid_of b).center
