-- The widths of products of vectors whose coordinates have radii: the sum of the widths of their terms. A rule of this project's own.
use Rattle.std.specs.Prelude.{ℕ, ◌+◌, ◌*◌, ℤ, unsigned_abs}
use Rattle.fx_num.specs.Radii.{product_width}
use Rattle.fx_vec.specs.Vectors.{Triple}
use Rattle.fx_vec.specs.Spatial.{Spatial, Inertia}
use Rattle.fx_vec.specs.Sizes.{plus_size}

-- of a . b, with the radii ra and rb
abbrev pub dot_width : Triple ℤ → Triple ℕ → Triple ℤ → Triple ℕ → ℕ
dot_width a ra b rb = product_width a.x ra.x b.x rb.x + product_width a.y ra.y b.y rb.y + product_width a.z ra.z b.z rb.z

abbrev pub cross_width : Triple ℤ → Triple ℕ → Triple ℤ → Triple ℕ → Triple ℕ
cross_width a ra b rb = record {
  x = product_width a.y ra.y b.z rb.z + product_width a.z ra.z b.y rb.y;
  y = product_width a.z ra.z b.x rb.x + product_width a.x ra.x b.z rb.z;
  z = product_width a.x ra.x b.y rb.y + product_width a.y ra.y b.x rb.x;
}

-- of k a, with the radii rk and ra
abbrev pub times_width : ℤ → ℕ → Triple ℤ → Triple ℕ → Triple ℕ
times_width k rk a ra = record { x = product_width k rk a.x ra.x; y = product_width k rk a.y ra.y; z = product_width k rk a.z ra.z }

abbrev pub times6_width : ℤ → ℕ → Spatial ℤ → Spatial ℕ → Spatial ℕ
times6_width k rk s rs = record { ang = times_width k rk s.ang rs.ang; lin = times_width k rk s.lin rs.lin }

abbrev pub pair_width : Spatial ℤ → Spatial ℕ → Spatial ℤ → Spatial ℕ → ℕ
pair_width s rs f rf = dot_width s.ang rs.ang f.ang rf.ang + dot_width s.lin rs.lin f.lin rf.lin

abbrev pub motion_cross_width : Spatial ℤ → Spatial ℕ → Spatial ℤ → Spatial ℕ → Spatial ℕ
motion_cross_width v rv s rs = record {
  ang = cross_width v.ang rv.ang s.ang rs.ang;
  lin = plus_size (cross_width v.lin rv.lin s.ang rs.ang) (cross_width v.ang rv.ang s.lin rs.lin);
}

abbrev pub force_cross_width : Spatial ℤ → Spatial ℕ → Spatial ℤ → Spatial ℕ → Spatial ℕ
force_cross_width v rv f rf = record {
  ang = plus_size (cross_width v.ang rv.ang f.ang rf.ang) (cross_width v.lin rv.lin f.lin rf.lin);
  lin = cross_width v.ang rv.ang f.lin rf.lin;
}

-- an exact factor a times a number with the radius r
abbrev pub scaled_width : ℤ → ℕ → ℕ
scaled_width a r = unsigned_abs a * r

-- a vector of exact factors
abbrev pub exact_dot_width : Triple ℤ → Triple ℕ → ℕ
exact_dot_width a r = scaled_width a.x r.x + scaled_width a.y r.y + scaled_width a.z r.z

abbrev pub exact_cross_width : Triple ℤ → Triple ℕ → Triple ℕ
exact_cross_width a r = record {
  x = scaled_width a.y r.z + scaled_width a.z r.y;
  y = scaled_width a.z r.x + scaled_width a.x r.z;
  z = scaled_width a.x r.y + scaled_width a.y r.x;
}

abbrev pub exact_times_width : ℤ → Triple ℕ → Triple ℕ
exact_times_width k r = record { x = scaled_width k r.x; y = scaled_width k r.y; z = scaled_width k r.z }

abbrev pub turned_width : Inertia → Triple ℕ → Triple ℕ
turned_width i r = record { x = exact_dot_width i.row_x r; y = exact_dot_width i.row_y r; z = exact_dot_width i.row_z r }

-- an inertia is exact, so its width is that of the motion alone
abbrev pub inertia_width : Inertia → Spatial ℕ → Spatial ℕ
inertia_width i r = record {
  ang = plus_size (turned_width i r.ang) (exact_cross_width i.moment r.lin);
  lin = plus_size (exact_times_width i.mass r.lin) (exact_cross_width i.moment r.ang);
}
