-- Two balls. MuJoCo documentation, Computation: collision of spheres; the normal of coincident centres and the rounding are this project's own.
use Rattle.std.specs.Prelude.{◌^◌, ℤ, pos, ◌-ℤ◌, int_lt, cond}
use Rattle.fx_vec.specs.Vectors.{Triple, minus}
use Rattle.mj_quat.specs.Rotation.{vector_length, vector_over}
use Rattle.mj_touch.specs.Meetings.{Meeting, past}

-- up: +z
abbrev pub upward : Triple ℤ
upward = record { x = pos 0; y = pos 0; z = pos (2 ^ 32) }

-- the direction of d: d over its length, and up where it has none
abbrev pub direction : Triple ℤ → Triple ℤ
direction d = cond (int_lt (pos 0) (vector_length d)) (vector_over d (vector_length d)) upward

-- how far apart the surfaces are
abbrev pub gap : Triple ℤ → ℤ → Triple ℤ → ℤ → ℤ
gap c r e s = vector_length (minus e c) -ℤ r -ℤ s

-- the ball at c with radius r, and the one at e with radius s
unfoldable pub balls : Triple ℤ → ℤ → Triple ℤ → ℤ → Meeting
balls c r e s = past c r (direction (minus e c)) (gap c r e s)
