-- How large the products of spatial vectors are, and that exact sums have room for them.
use Rattle.std.proofs.Common.{ℕ, ◌+◌, ◌*◌, ◌^◌, ◌<◌, ◌≤◌, ℤ, unsigned_abs, arith, mul-le-mul, add-le-add, le_trans}
use Rattle.fx_whole.proofs.Ring.{abs_mul_le}
use Rattle.fx_vec.specs.Vectors.{Triple, times}
use Rattle.fx_vec.specs.Spatial.{Spatial, Inertia, plus6, times6}
use Rattle.fx_vec.specs.Sizes.{Within, Below, Within6, Below6, cross_size, plus_size, plus6_size, times_size, times6_size, pair_size, motion_cross_size, force_cross_size, turned_size, inertia_size}
use Rattle.fx_vec.specs.Widths.{cross_width, times_width, times6_width, pair_width, motion_cross_width, force_cross_width, exact_dot_width, exact_cross_width, exact_times_width, turned_width, inertia_width}
use Rattle.fx_vec.specs.Inertias.{IsShort}
use Rattle.fx_vec.specs.Views.{inertia}
use Rattle.fx_vec.specs.declared.inertia.Inertia10.{Inertia10}
use Rattle.fx_vec.specs.Room.{Fits, Narrow, Grown, Fits6, Narrow6, Grown6}
use Rattle.fx_vec.proofs.Bounds.{dot_size-le, cross_size-le, dot_width-le, cross_width-le, product_width-le, plus-within, within-le}
use Rattle.mj_types.specs.Placed.{WithinInertia}

-- ---- a greater limit, and sums
pub below-le : (a : Triple ℕ) (m n : ℕ) → Below a m → m ≤ n → Below a n
below-le a m n h k = record { x = le_trans h.x k; y = le_trans h.y k; z = le_trans h.z k }

below-plus : (a b : Triple ℕ) (m n : ℕ) → Below a m → Below b n → Below (plus_size a b) (m + n)
below-plus a b m n h k = record { x = add-le-add h.x k.x; y = add-le-add h.y k.y; z = add-le-add h.z k.z }

pub below6-le : (a : Spatial ℕ) (m n : ℕ) → Below6 a m → m ≤ n → Below6 a n
below6-le a m n h k = record { ang = below-le a.ang m n h.ang k; lin = below-le a.lin m n h.lin k }

pub within6-le : (a : Spatial ℤ) (m n : ℕ) → Within6 a m → m ≤ n → Within6 a n
within6-le a m n h k = record { ang = within-le a.ang m n h.ang k; lin = within-le a.lin m n h.lin k }

pub within6-plus : (a b : Spatial ℤ) (m n : ℕ) → Within6 a m → Within6 b n → Within6 (plus6 a b) (m + n)
within6-plus a b m n h k = record { ang = plus-within a.ang b.ang m n h.ang k.ang; lin = plus-within a.lin b.lin m n h.lin k.lin }

pub below6-plus : (a b : Spatial ℕ) (m n : ℕ) → Below6 a m → Below6 b n → Below6 (plus6_size a b) (m + n)
below6-plus a b m n h k = record { ang = below-plus a.ang b.ang m n h.ang k.ang; lin = below-plus a.lin b.lin m n h.lin k.lin }

-- ---- room for what is added
room_one : (a b m n l : ℕ) → a ≤ m → b ≤ n → m + n < l → a + b < l
room_one a b m n l h k i = omega arith

pub fits6 : (old : Spatial ℤ) (size : Spatial ℕ) (m n : ℕ) → Within6 old m → Below6 size n → m + n < 2 ^ 127 → Fits6 old size
fits6 old size m n h k i = record { ang = three old.ang size.ang h.ang k.ang; lin = three old.lin size.lin h.lin k.lin }
  where
    three : (old : Triple ℤ) (size : Triple ℕ) → Within old m → Below size n → Fits old size
    three old size h k = record { x = room_one _ _ m n (2 ^ 127) h.x k.x i; y = room_one _ _ m n (2 ^ 127) h.y k.y i; z = room_one _ _ m n (2 ^ 127) h.z k.z i }

pub narrow6 : (old width : Spatial ℕ) (m n : ℕ) → Below6 old m → Below6 width n → m + n < 2 ^ 128 → Narrow6 old width
narrow6 old width m n h k i = record { ang = three old.ang width.ang h.ang k.ang; lin = three old.lin width.lin h.lin k.lin }
  where
    three : (old width : Triple ℕ) → Below old m → Below width n → Narrow old width
    three old width h k = record { x = room_one _ _ m n (2 ^ 128) h.x k.x i; y = room_one _ _ m n (2 ^ 128) h.y k.y i; z = room_one _ _ m n (2 ^ 128) h.z k.z i }

pub grown6 : (old : Spatial ℤ) (size : Spatial ℕ) (new : Spatial ℤ) (m n : ℕ) → Within6 old m → Below6 size n → Grown6 old size new → Within6 new (m + n)
grown6 old size new m n h k g = record { ang = three old.ang size.ang new.ang h.ang k.ang g.ang; lin = three old.lin size.lin new.lin h.lin k.lin g.lin }
  where
    three : (old : Triple ℤ) (size : Triple ℕ) (new : Triple ℤ) → Within old m → Below size n → Grown old size new → Within new (m + n)
    three old size new h k g = record { x = le_trans g.x (add-le-add h.x k.x); y = le_trans g.y (add-le-add h.y k.y); z = le_trans g.z (add-le-add h.z k.z) }

-- ---- a number times a vector
times_size-le : (k : ℤ) (a : Triple ℤ) (m n : ℕ) → unsigned_abs k ≤ m → Within a n → Below (times_size k a) (m * n)
times_size-le k a m n h i = record { x = mul-le-mul h i.x; y = mul-le-mul h i.y; z = mul-le-mul h i.z }

pub times6_size-le : (k : ℤ) (s : Spatial ℤ) (m n : ℕ) → unsigned_abs k ≤ m → Within6 s n → Below6 (times6_size k s) (m * n)
times6_size-le k s m n h i = record { ang = times_size-le k s.ang m n h i.ang; lin = times_size-le k s.lin m n h i.lin }

times-within : (k : ℤ) (a : Triple ℤ) (m n : ℕ) → unsigned_abs k ≤ m → Within a n → Within (times k a) (m * n)
times-within k a m n h i = record { x = abs_mul_le k a.x m n h i.x; y = abs_mul_le k a.y m n h i.y; z = abs_mul_le k a.z m n h i.z }

pub times6-within : (k : ℤ) (s : Spatial ℤ) (m n : ℕ) → unsigned_abs k ≤ m → Within6 s n → Within6 (times6 k s) (m * n)
times6-within k s m n h i = record { ang = times-within k s.ang m n h i.ang; lin = times-within k s.lin m n h i.lin }

times_width-le : (k : ℤ) (rk : ℕ) (a : Triple ℤ) (ra : Triple ℕ) (m n r t : ℕ) → unsigned_abs k ≤ m → Within a n → rk ≤ r → Below ra t → Below (times_width k rk a ra) (m * t + n * r + r * t)
times_width-le k rk a ra m n r t h i j l = record {
  x = product_width-le k a.x rk ra.x m n r t h i.x j l.x;
  y = product_width-le k a.y rk ra.y m n r t h i.y j l.y;
  z = product_width-le k a.z rk ra.z m n r t h i.z j l.z;
}

pub times6_width-le : (k : ℤ) (rk : ℕ) (s : Spatial ℤ) (rs : Spatial ℕ) (m n r t : ℕ) → unsigned_abs k ≤ m → Within6 s n → rk ≤ r → Below6 rs t → Below6 (times6_width k rk s rs) (m * t + n * r + r * t)
times6_width-le k rk s rs m n r t h i j l = record { ang = times_width-le k rk s.ang rs.ang m n r t h i.ang j l.ang; lin = times_width-le k rk s.lin rs.lin m n r t h i.lin j l.lin }

-- ---- products of two vectors
two_four : (p : ℕ) → 2 * p ≤ 4 * p
two_four p = omega arith

twice_two : (p : ℕ) → 2 * p + 2 * p ≤ 4 * p
twice_two p = omega arith

pub motion_cross_size-le : (v s : Spatial ℤ) (m n : ℕ) → Within6 v m → Within6 s n → Below6 (motion_cross_size v s) (4 * (m * n))
motion_cross_size-le v s m n h k = record {
  ang = below-le _ (2 * (m * n)) (4 * (m * n)) (cross_size-le v.ang s.ang m n h.ang k.ang) (two_four (m * n));
  lin = below-le _ (2 * (m * n) + 2 * (m * n)) (4 * (m * n))
      (below-plus (cross_size v.lin s.ang) (cross_size v.ang s.lin) (2 * (m * n)) (2 * (m * n)) (cross_size-le v.lin s.ang m n h.lin k.ang) (cross_size-le v.ang s.lin m n h.ang k.lin)) (twice_two (m * n));
}

pub force_cross_size-le : (v f : Spatial ℤ) (m n : ℕ) → Within6 v m → Within6 f n → Below6 (force_cross_size v f) (4 * (m * n))
force_cross_size-le v f m n h k = record {
  ang = below-le _ (2 * (m * n) + 2 * (m * n)) (4 * (m * n))
      (below-plus (cross_size v.ang f.ang) (cross_size v.lin f.lin) (2 * (m * n)) (2 * (m * n)) (cross_size-le v.ang f.ang m n h.ang k.ang) (cross_size-le v.lin f.lin m n h.lin k.lin)) (twice_two (m * n));
  lin = below-le _ (2 * (m * n)) (4 * (m * n)) (cross_size-le v.ang f.lin m n h.ang k.lin) (two_four (m * n));
}

pub motion_cross_width-le : (v : Spatial ℤ) (rv : Spatial ℕ) (s : Spatial ℤ) (rs : Spatial ℕ) (m n r t : ℕ) → Within6 v m → Within6 s n → Below6 rv r → Below6 rs t
    → Below6 (motion_cross_width v rv s rs) (4 * (m * t + n * r + r * t))
motion_cross_width-le v rv s rs m n r t h k i j =
    let p : ℕ = m * t + n * r + r * t in
    record {
      ang = below-le _ (2 * p) (4 * p) (cross_width-le v.ang rv.ang s.ang rs.ang m n r t h.ang k.ang i.ang j.ang) (two_four p);
      lin = below-le _ (2 * p + 2 * p) (4 * p)
          (below-plus (cross_width v.lin rv.lin s.ang rs.ang) (cross_width v.ang rv.ang s.lin rs.lin) (2 * p) (2 * p)
          (cross_width-le v.lin rv.lin s.ang rs.ang m n r t h.lin k.ang i.lin j.ang) (cross_width-le v.ang rv.ang s.lin rs.lin m n r t h.ang k.lin i.ang j.lin)) (twice_two p);
    }

pub force_cross_width-le : (v : Spatial ℤ) (rv : Spatial ℕ) (f : Spatial ℤ) (rf : Spatial ℕ) (m n r t : ℕ) → Within6 v m → Within6 f n → Below6 rv r → Below6 rf t
    → Below6 (force_cross_width v rv f rf) (4 * (m * t + n * r + r * t))
force_cross_width-le v rv f rf m n r t h k i j =
    let p : ℕ = m * t + n * r + r * t in
    record {
      ang = below-le _ (2 * p + 2 * p) (4 * p)
          (below-plus (cross_width v.ang rv.ang f.ang rf.ang) (cross_width v.lin rv.lin f.lin rf.lin) (2 * p) (2 * p)
          (cross_width-le v.ang rv.ang f.ang rf.ang m n r t h.ang k.ang i.ang j.ang) (cross_width-le v.lin rv.lin f.lin rf.lin m n r t h.lin k.lin i.lin j.lin)) (twice_two p);
      lin = below-le _ (2 * p) (4 * p) (cross_width-le v.ang rv.ang f.lin rf.lin m n r t h.ang k.lin i.ang j.lin) (two_four p);
    }

-- ---- the power of a force on a motion
pub pair_size-le : (s f : Spatial ℤ) (m n : ℕ) → Within6 s m → Within6 f n → pair_size s f ≤ 6 * (m * n)
pair_size-le s f m n h k = sum_le _ _ (m * n) (dot_size-le s.ang f.ang m n h.ang k.ang) (dot_size-le s.lin f.lin m n h.lin k.lin)
  where
    sum_le : (a b p : ℕ) → a ≤ 3 * p → b ≤ 3 * p → a + b ≤ 6 * p
    sum_le a b p h k = omega arith

pub pair_width-le : (s : Spatial ℤ) (rs : Spatial ℕ) (f : Spatial ℤ) (rf : Spatial ℕ) (m n r t : ℕ) → Within6 s m → Within6 f n → Below6 rs r → Below6 rf t
    → pair_width s rs f rf ≤ 6 * (m * t + n * r + r * t)
pair_width-le s rs f rf m n r t h k i j =
    sum_le _ _ (m * t + n * r + r * t) (dot_width-le s.ang rs.ang f.ang rf.ang m n r t h.ang k.ang i.ang j.ang) (dot_width-le s.lin rs.lin f.lin rf.lin m n r t h.lin k.lin i.lin j.lin)
  where
    sum_le : (a b p : ℕ) → a ≤ 3 * p → b ≤ 3 * p → a + b ≤ 6 * p
    sum_le a b p h k = omega arith

-- ---- an inertia times a motion
three_two : (p : ℕ) → 3 * p + 2 * p ≤ 5 * p
three_two p = omega arith

one_two : (p : ℕ) → p + 2 * p ≤ 5 * p
one_two p = omega arith

turned_size-le : (i : Inertia) (w : Triple ℤ) (m n : ℕ) → WithinInertia i m → Within w n → Below (turned_size i w) (3 * (m * n))
turned_size-le i w m n h k = record { x = dot_size-le i.row_x w m n h.row_x k; y = dot_size-le i.row_y w m n h.row_y k; z = dot_size-le i.row_z w m n h.row_z k }

pub inertia_size-le : (i : Inertia) (s : Spatial ℤ) (m n : ℕ) → WithinInertia i m → Within6 s n → Below6 (inertia_size i s) (5 * (m * n))
inertia_size-le i s m n h k = record {
  ang = below-le _ (3 * (m * n) + 2 * (m * n)) (5 * (m * n))
      (below-plus (turned_size i s.ang) (cross_size i.moment s.lin) (3 * (m * n)) (2 * (m * n)) (turned_size-le i s.ang m n h k.ang) (cross_size-le i.moment s.lin m n h.moment k.lin)) (three_two (m * n));
  lin = below-le _ (m * n + 2 * (m * n)) (5 * (m * n))
      (below-plus (times_size i.mass s.lin) (cross_size i.moment s.ang) (m * n) (2 * (m * n)) (times_size-le i.mass s.lin m n h.mass k.lin) (cross_size-le i.moment s.ang m n h.moment k.ang)) (one_two (m * n));
}

sum_three : (a b c p : ℕ) → a ≤ p → b ≤ p → c ≤ p → a + b + c ≤ 3 * p
sum_three a b c p h k i = omega arith

sum_two : (a b p : ℕ) → a ≤ p → b ≤ p → a + b ≤ 2 * p
sum_two a b p h k = omega arith

exact_dot-le : (a : Triple ℤ) (r : Triple ℕ) (m t : ℕ) → Within a m → Below r t → exact_dot_width a r ≤ 3 * (m * t)
exact_dot-le a r m t h k = sum_three _ _ _ (m * t) (mul-le-mul h.x k.x) (mul-le-mul h.y k.y) (mul-le-mul h.z k.z)

exact_cross-le : (a : Triple ℤ) (r : Triple ℕ) (m t : ℕ) → Within a m → Below r t → Below (exact_cross_width a r) (2 * (m * t))
exact_cross-le a r m t h k = record {
  x = sum_two _ _ (m * t) (mul-le-mul h.y k.z) (mul-le-mul h.z k.y);
  y = sum_two _ _ (m * t) (mul-le-mul h.z k.x) (mul-le-mul h.x k.z);
  z = sum_two _ _ (m * t) (mul-le-mul h.x k.y) (mul-le-mul h.y k.x);
}

exact_times-le : (k : ℤ) (r : Triple ℕ) (m t : ℕ) → unsigned_abs k ≤ m → Below r t → Below (exact_times_width k r) (m * t)
exact_times-le k r m t h i = record { x = mul-le-mul h i.x; y = mul-le-mul h i.y; z = mul-le-mul h i.z }

turned_width-le : (i : Inertia) (r : Triple ℕ) (m t : ℕ) → WithinInertia i m → Below r t → Below (turned_width i r) (3 * (m * t))
turned_width-le i r m t h k = record { x = exact_dot-le i.row_x r m t h.row_x k; y = exact_dot-le i.row_y r m t h.row_y k; z = exact_dot-le i.row_z r m t h.row_z k }

pub inertia_width-le : (i : Inertia) (r : Spatial ℕ) (m t : ℕ) → WithinInertia i m → Below6 r t → Below6 (inertia_width i r) (5 * (m * t))
inertia_width-le i r m t h k = record {
  ang = below-le _ (3 * (m * t) + 2 * (m * t)) (5 * (m * t))
      (below-plus (turned_width i r.ang) (exact_cross_width i.moment r.lin) (3 * (m * t)) (2 * (m * t)) (turned_width-le i r.ang m t h k.ang) (exact_cross-le i.moment r.lin m t h.moment k.lin)) (three_two (m * t));
  lin = below-le _ (m * t + 2 * (m * t)) (5 * (m * t))
      (below-plus (exact_times_width i.mass r.lin) (exact_cross_width i.moment r.ang) (m * t) (2 * (m * t)) (exact_times-le i.mass r.lin m t h.mass k.lin) (exact_cross-le i.moment r.ang m t h.moment k.ang)) (one_two (m * t));
}

-- ---- what is within 2^62 needs no more than 64 bits
short_one : (n : ℕ) → n ≤ 2 ^ 62 → n < 2 ^ 63
short_one n h = omega arith

pub short_inertia : (i : Inertia10) → WithinInertia (inertia i) (2 ^ 62) → IsShort i
short_inertia i h = record {
  xx = short_one _ h.row_x.x;
  xy = short_one _ h.row_x.y;
  xz = short_one _ h.row_x.z;
  yy = short_one _ h.row_y.y;
  yz = short_one _ h.row_y.z;
  zz = short_one _ h.row_z.z;
  mx = short_one _ h.moment.x;
  my = short_one _ h.moment.y;
  mz = short_one _ h.moment.z;
  mass = short_one _ h.mass;
}
