-- Vectors in space, and their two products. The usual definitions.
use Rattle.std.specs.Prelude.{ℤ, pos, ◌+ℤ◌, ◌-ℤ◌, ◌*ℤ◌}

-- a vector of coordinates of one type
pub record Triple (A : Type 0) : Type 0 where
  pub x : A
  pub y : A
  pub z : A

-- a . b
abbrev pub dot : Triple ℤ → Triple ℤ → ℤ
dot a b = a.x *ℤ b.x +ℤ a.y *ℤ b.y +ℤ a.z *ℤ b.z

-- a x b
abbrev pub cross : Triple ℤ → Triple ℤ → Triple ℤ
cross a b = record {
  x = a.y *ℤ b.z -ℤ a.z *ℤ b.y;
  y = a.z *ℤ b.x -ℤ a.x *ℤ b.z;
  z = a.x *ℤ b.y -ℤ a.y *ℤ b.x;
}

abbrev pub plus : Triple ℤ → Triple ℤ → Triple ℤ
plus a b = record { x = a.x +ℤ b.x; y = a.y +ℤ b.y; z = a.z +ℤ b.z }

abbrev pub minus : Triple ℤ → Triple ℤ → Triple ℤ
minus a b = record { x = a.x -ℤ b.x; y = a.y -ℤ b.y; z = a.z -ℤ b.z }

-- k a
abbrev pub times : ℤ → Triple ℤ → Triple ℤ
times k a = record { x = k *ℤ a.x; y = k *ℤ a.y; z = k *ℤ a.z }

abbrev pub no_vector : Triple ℤ
no_vector = record { x = pos 0; y = pos 0; z = pos 0 }
