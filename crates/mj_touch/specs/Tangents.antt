-- The two tangents of a contact, which with its normal make a frame. A rule of this project's own.
use Rattle.std.specs.Prelude.{◌^◌, ℤ, pos, nat_le, unsigned_abs, Bool, ◌&&◌, cond}
use Rattle.fx_vec.specs.Vectors.{Triple, cross}
use Rattle.fx_vec.specs.Settling.{settled3}
use Rattle.mj_quat.specs.Rotation.{unit_vector}

abbrev pub unit_x : Triple ℤ
unit_x = record { x = pos (2 ^ 32); y = pos 0; z = pos 0 }

abbrev pub unit_y : Triple ℤ
unit_y = record { x = pos 0; y = pos (2 ^ 32); z = pos 0 }

abbrev pub unit_z : Triple ℤ
unit_z = record { x = pos 0; y = pos 0; z = pos (2 ^ 32) }

-- whether the first number is the least in size, and whether the second is no larger than the third
abbrev pub is_x_least : Triple ℤ → Bool
is_x_least n = nat_le (unsigned_abs n.x) (unsigned_abs n.y) && nat_le (unsigned_abs n.x) (unsigned_abs n.z)

abbrev pub is_y_less : Triple ℤ → Bool
is_y_less n = nat_le (unsigned_abs n.y) (unsigned_abs n.z)

-- the unit vector of the number that is least in size, the first on a tie
abbrev pub least_unit : Triple ℤ → Triple ℤ
least_unit n = cond (is_x_least n) unit_x (cond (is_y_less n) unit_y unit_z)

-- a x b, rounded
abbrev pub crossed : Triple ℤ → Triple ℤ → Triple ℤ
crossed a b = settled3 (cross a b) 32

unfoldable pub first_tangent : Triple ℤ → Triple ℤ
first_tangent n = unit_vector (crossed n (least_unit n))

unfoldable pub second_tangent : Triple ℤ → Triple ℤ
second_tangent n = crossed n (first_tangent n)
