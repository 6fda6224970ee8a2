-- Spatial vectors and their products, as in R. Featherstone, Rigid Body Dynamics Algorithms (Springer 2008), chapter 2.
use Rattle.std.specs.Prelude.{ℤ, pos, ◌+ℤ◌}
use Rattle.fx_vec.specs.Vectors.{Triple, no_vector, dot, cross, plus, minus, times}

-- a motion (angular and linear velocity) or a force (moment and force)
pub record Spatial (A : Type 0) : Type 0 where
  pub ang : Triple A
  pub lin : Triple A

-- a rigid body's inertia about the origin: the rotational inertia by rows, the first moment m of its mass, and the mass
pub record Inertia : Type 0 where
  pub row_x : Triple ℤ
  pub row_y : Triple ℤ
  pub row_z : Triple ℤ
  pub moment : Triple ℤ
  pub mass : ℤ

-- k a
abbrev pub times6 : ℤ → Spatial ℤ → Spatial ℤ
times6 k a = record { ang = times k a.ang; lin = times k a.lin }

-- the sum of two spatial vectors, and the empty one
abbrev pub plus6 : Spatial ℤ → Spatial ℤ → Spatial ℤ
plus6 a b = record { ang = plus a.ang b.ang; lin = plus a.lin b.lin }

abbrev pub no_spatial : Spatial ℤ
no_spatial = record { ang = no_vector; lin = no_vector }

-- the inertia of two bodies about one point, and that of none
abbrev pub plus_inertia : Inertia → Inertia → Inertia
plus_inertia a b = record {
  row_x = plus a.row_x b.row_x;
  row_y = plus a.row_y b.row_y;
  row_z = plus a.row_z b.row_z;
  moment = plus a.moment b.moment;
  mass = a.mass +ℤ b.mass;
}

abbrev pub no_inertia : Inertia
no_inertia = record { row_x = no_vector; row_y = no_vector; row_z = no_vector; moment = no_vector; mass = pos 0 }

-- the power of the force f on the motion s: s . f
abbrev pub pair : Spatial ℤ → Spatial ℤ → ℤ
pair s f = dot s.ang f.ang +ℤ dot s.lin f.lin

-- v x s, the rate of a motion s that moves with v
abbrev pub motion_cross : Spatial ℤ → Spatial ℤ → Spatial ℤ
motion_cross v s = record { ang = cross v.ang s.ang; lin = plus (cross v.lin s.ang) (cross v.ang s.lin) }

-- v x* f, the rate of a force f that moves with v
abbrev pub force_cross : Spatial ℤ → Spatial ℤ → Spatial ℤ
force_cross v f = record { ang = plus (cross v.ang f.ang) (cross v.lin f.lin); lin = cross v.ang f.lin }

-- the rotational inertia times a vector
abbrev pub turned : Inertia → Triple ℤ → Triple ℤ
turned i w = record { x = dot i.row_x w; y = dot i.row_y w; z = dot i.row_z w }

-- the momentum of a body with inertia i that moves with s: (I ang + m x lin ; mass lin - m x ang)
abbrev pub inertia_times : Inertia → Spatial ℤ → Spatial ℤ
inertia_times i s = record {
  ang = plus (turned i s.ang) (cross i.moment s.lin);
  lin = minus (times i.mass s.lin) (cross i.moment s.ang);
}
