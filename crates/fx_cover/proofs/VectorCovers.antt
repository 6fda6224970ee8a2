-- Covered vectors give covered sums, products and rounded vectors.
use Rattle.std.proofs.Common.{ℕ, zero, suc, ◌+◌, ◌-◌, ◌^◌, ◌<◌, ◌≤◌, ℤ, pos, ◌+ℤ◌, ◌-ℤ◌, ◌*ℤ◌, Bool, true, false, arith, pow_pos}
use Rattle.fx_whole.specs.Adding.{sum_in, when_in}
use Rattle.fx_near.specs.Covers.{Covers}
use Rattle.fx_near.specs.Widths.{settled_radius}
use Rattle.fx_near.proofs.CoverLaws.{exact-covers}
use Rattle.fx_near.proofs.DyadicLaws.{covers-zero, covers-add, covers-less, covers-product, covers-scaled, covers-settled, covers-raised}
use Rattle.fx_num.specs.Radii.{product_width}
use Rattle.fx_vec.specs.Vectors.{Triple, no_vector, dot, cross, plus, minus, times}
use Rattle.fx_vec.specs.Spatial.{Spatial, Inertia, plus6, no_spatial, times6, pair, motion_cross, force_cross, turned, inertia_times}
use Rattle.fx_vec.specs.Sizes.{plus_size, no_size, plus6_size, no_size6}
use Rattle.fx_vec.specs.Widths.{dot_width, cross_width, times_width, times6_width, pair_width, motion_cross_width, force_cross_width, scaled_width, exact_dot_width, exact_cross_width, exact_times_width, turned_width, inertia_width}
use Rattle.fx_vec.specs.Settling.{settled3, settled6, radii3, radii6}
use Rattle.fx_vec.specs.Sums.{vectors, sizes}
use Rattle.fx_cover.specs.Covering.{Covers3, Covers6, raised3, raised6}

-- ---- vectors
pub covers3-exact : (v : Triple ℤ) (f : ℕ) → Covers3 v no_size f v f
covers3-exact v f = record { x = exact-covers v.x f; y = exact-covers v.y f; z = exact-covers v.z f }

pub covers3-zero : (f g : ℕ) → Covers3 no_vector no_size f no_vector g
covers3-zero f g = let z : Covers (pos 0) 0 f (pos 0) (2 ^ g) = covers-zero f (2 ^ g) (pow_pos g) in record { x = z; y = z; z = z }

pub covers3-add : (a b n m : Triple ℤ) (ra rb : Triple ℕ) (f g : ℕ) → Covers3 a ra f n g → Covers3 b rb f m g → Covers3 (plus a b) (plus_size ra rb) f (plus n m) g
covers3-add a b n m ra rb f g p q = record {
  x = covers-add a.x b.x n.x m.x ra.x rb.x f (2 ^ g) p.x q.x;
  y = covers-add a.y b.y n.y m.y ra.y rb.y f (2 ^ g) p.y q.y;
  z = covers-add a.z b.z n.z m.z ra.z rb.z f (2 ^ g) p.z q.z;
}

pub covers3-less : (a b n m : Triple ℤ) (ra rb : Triple ℕ) (f g : ℕ) → Covers3 a ra f n g → Covers3 b rb f m g → Covers3 (minus a b) (plus_size ra rb) f (minus n m) g
covers3-less a b n m ra rb f g p q = record {
  x = covers-less a.x b.x n.x m.x ra.x rb.x f (2 ^ g) p.x q.x;
  y = covers-less a.y b.y n.y m.y ra.y rb.y f (2 ^ g) p.y q.y;
  z = covers-less a.z b.z n.z m.z ra.z rb.z f (2 ^ g) p.z q.z;
}

pub covers3-times : (k n : ℤ) (rk : ℕ) (a m : Triple ℤ) (ra : Triple ℕ) (f h g e : ℕ) → Covers k rk f n (2 ^ g) → Covers3 a ra h m e → Covers3 (times k a) (times_width k rk a ra) (f + h) (times n m) (g + e)
covers3-times k n rk a m ra f h g e p q = record {
  x = covers-product k a.x n m.x rk ra.x f h g e p q.x;
  y = covers-product k a.y n m.y rk ra.y f h g e p q.y;
  z = covers-product k a.z n m.z rk ra.z f h g e p q.z;
}

pub covers-dot : (a b n m : Triple ℤ) (ra rb : Triple ℕ) (f h g k : ℕ) → Covers3 a ra f n g → Covers3 b rb h m k → Covers (dot a b) (dot_width a ra b rb) (f + h) (dot n m) (2 ^ (g + k))
covers-dot a b n m ra rb f h g k p q =
    let x = covers-product a.x b.x n.x m.x ra.x rb.x f h g k p.x q.x in
    let y = covers-product a.y b.y n.y m.y ra.y rb.y f h g k p.y q.y in
    let z = covers-product a.z b.z n.z m.z ra.z rb.z f h g k p.z q.z in
    let xy = covers-add (a.x *ℤ b.x) (a.y *ℤ b.y) (n.x *ℤ m.x) (n.y *ℤ m.y) (product_width a.x ra.x b.x rb.x) (product_width a.y ra.y b.y rb.y) (f + h) (2 ^ (g + k)) x y in
    covers-add (a.x *ℤ b.x +ℤ a.y *ℤ b.y) (a.z *ℤ b.z) (n.x *ℤ m.x +ℤ n.y *ℤ m.y) (n.z *ℤ m.z) (product_width a.x ra.x b.x rb.x + product_width a.y ra.y b.y rb.y) (product_width a.z ra.z b.z rb.z) (f + h) (2 ^ (g + k)) xy z

-- a d - b c
covers-minor : (a d b c n w m v : ℤ) (ra rd rb rc f h g k : ℕ) → Covers a ra f n (2 ^ g) → Covers d rd h w (2 ^ k) → Covers b rb f m (2 ^ g) → Covers c rc h v (2 ^ k)
    → Covers (a *ℤ d -ℤ b *ℤ c) (product_width a ra d rd + product_width b rb c rc) (f + h) (n *ℤ w -ℤ m *ℤ v) (2 ^ (g + k))
covers-minor a d b c n w m v ra rd rb rc f h g k p q s t =
    covers-less (a *ℤ d) (b *ℤ c) (n *ℤ w) (m *ℤ v) (product_width a ra d rd) (product_width b rb c rc) (f + h) (2 ^ (g + k)) (covers-product a d n w ra rd f h g k p q) (covers-product b c m v rb rc f h g k s t)

pub covers3-cross : (a b n m : Triple ℤ) (ra rb : Triple ℕ) (f h g k : ℕ) → Covers3 a ra f n g → Covers3 b rb h m k → Covers3 (cross a b) (cross_width a ra b rb) (f + h) (cross n m) (g + k)
covers3-cross a b n m ra rb f h g k p q = record {
  x = covers-minor a.y b.z a.z b.y n.y m.z n.z m.y ra.y rb.z ra.z rb.y f h g k p.y q.z p.z q.y;
  y = covers-minor a.z b.x a.x b.z n.z m.x n.x m.z ra.z rb.x ra.x rb.z f h g k p.z q.x p.x q.z;
  z = covers-minor a.x b.y a.y b.x n.x m.y n.y m.x ra.x rb.y ra.y rb.x f h g k p.x q.y p.y q.x;
}

pub covers3-settled : (v n : Triple ℤ) (w : Triple ℕ) (f p g : ℕ) → f ≤ p → Covers3 v w p n g → Covers3 (settled3 v (p - f)) (radii3 settled_radius v w (p - f)) f n g
covers3-settled v n w f p g h c = record {
  x = covers-settled v.x n.x w.x f p g h c.x;
  y = covers-settled v.y n.y w.y f p g h c.y;
  z = covers-settled v.z n.z w.z f p g h c.z;
}

pub covers3-raised : (a n : Triple ℤ) (r : Triple ℕ) (f g k : ℕ) → Covers3 a r f n g → Covers3 a r f (raised3 n k) (g + k)
covers3-raised a n r f g k c = record {
  x = covers-raised a.x n.x r.x f g k c.x;
  y = covers-raised a.y n.y r.y f g k c.y;
  z = covers-raised a.z n.z r.z f g k c.z;
}

-- ---- products with exact vectors at scale e
covers-exact_dot : (a b n : Triple ℤ) (r : Triple ℕ) (e f g : ℕ) → Covers3 b r f n g → Covers (dot a b) (exact_dot_width a r) (e + f) (dot a n) (2 ^ (e + g))
covers-exact_dot a b n r e f g c =
    let x = covers-scaled a.x b.x n.x r.x e f g c.x in
    let y = covers-scaled a.y b.y n.y r.y e f g c.y in
    let z = covers-scaled a.z b.z n.z r.z e f g c.z in
    let xy = covers-add (a.x *ℤ b.x) (a.y *ℤ b.y) (a.x *ℤ n.x) (a.y *ℤ n.y) (scaled_width a.x r.x) (scaled_width a.y r.y) (e + f) (2 ^ (e + g)) x y in
    covers-add (a.x *ℤ b.x +ℤ a.y *ℤ b.y) (a.z *ℤ b.z) (a.x *ℤ n.x +ℤ a.y *ℤ n.y) (a.z *ℤ n.z) (scaled_width a.x r.x + scaled_width a.y r.y) (scaled_width a.z r.z) (e + f) (2 ^ (e + g)) xy z

covers-exact_minor : (a d b c w v : ℤ) (rd rc e f g : ℕ) → Covers d rd f w (2 ^ g) → Covers c rc f v (2 ^ g) → Covers (a *ℤ d -ℤ b *ℤ c) (scaled_width a rd + scaled_width b rc) (e + f) (a *ℤ w -ℤ b *ℤ v) (2 ^ (e + g))
covers-exact_minor a d b c w v rd rc e f g p q =
    covers-less (a *ℤ d) (b *ℤ c) (a *ℤ w) (b *ℤ v) (scaled_width a rd) (scaled_width b rc) (e + f) (2 ^ (e + g)) (covers-scaled a d w rd e f g p) (covers-scaled b c v rc e f g q)

covers3-exact_cross : (a b n : Triple ℤ) (r : Triple ℕ) (e f g : ℕ) → Covers3 b r f n g → Covers3 (cross a b) (exact_cross_width a r) (e + f) (cross a n) (e + g)
covers3-exact_cross a b n r e f g c = record {
  x = covers-exact_minor a.y b.z a.z b.y n.z n.y r.z r.y e f g c.z c.y;
  y = covers-exact_minor a.z b.x a.x b.z n.x n.z r.x r.z e f g c.x c.z;
  z = covers-exact_minor a.x b.y a.y b.x n.y n.x r.y r.x e f g c.y c.x;
}

covers3-exact_times : (k : ℤ) (b n : Triple ℤ) (r : Triple ℕ) (e f g : ℕ) → Covers3 b r f n g → Covers3 (times k b) (exact_times_width k r) (e + f) (times k n) (e + g)
covers3-exact_times k b n r e f g c = record {
  x = covers-scaled k b.x n.x r.x e f g c.x;
  y = covers-scaled k b.y n.y r.y e f g c.y;
  z = covers-scaled k b.z n.z r.z e f g c.z;
}

covers3-turned : (i : Inertia) (b n : Triple ℤ) (r : Triple ℕ) (e f g : ℕ) → Covers3 b r f n g → Covers3 (turned i b) (turned_width i r) (e + f) (turned i n) (e + g)
covers3-turned i b n r e f g c = record {
  x = covers-exact_dot i.row_x b n r e f g c;
  y = covers-exact_dot i.row_y b n r e f g c;
  z = covers-exact_dot i.row_z b n r e f g c;
}

-- ---- spatial vectors
pub covers6-exact : (s : Spatial ℤ) (f : ℕ) → Covers6 s no_size6 f s f
covers6-exact s f = record { ang = covers3-exact s.ang f; lin = covers3-exact s.lin f }

pub covers6-zero : (f g : ℕ) → Covers6 no_spatial no_size6 f no_spatial g
covers6-zero f g = record { ang = covers3-zero f g; lin = covers3-zero f g }

pub covers6-add : (a b n m : Spatial ℤ) (ra rb : Spatial ℕ) (f g : ℕ) → Covers6 a ra f n g → Covers6 b rb f m g → Covers6 (plus6 a b) (plus6_size ra rb) f (plus6 n m) g
covers6-add a b n m ra rb f g p q = record {
  ang = covers3-add a.ang b.ang n.ang m.ang ra.ang rb.ang f g p.ang q.ang;
  lin = covers3-add a.lin b.lin n.lin m.lin ra.lin rb.lin f g p.lin q.lin;
}

pub covers6-when : (t : Bool) (a n : Spatial ℤ) (r : Spatial ℕ) (f g : ℕ) → Covers6 a r f n g → Covers6 (when_in vectors t a) (when_in sizes t r) f (when_in vectors t n) g
covers6-when true a n r f g c = c
covers6-when false a n r f g c = covers6-zero f g

pub covers6-sum : (n : ℕ) (a e : ℕ → Spatial ℤ) (r : ℕ → Spatial ℕ) (f g : ℕ) → ((k : ℕ) → k < n → Covers6 (a k) (r k) f (e k) g) → Covers6 (sum_in vectors n a) (sum_in sizes n r) f (sum_in vectors n e) g
covers6-sum zero a e r f g c = covers6-zero f g
covers6-sum (suc n) a e r f g c =
    covers6-add (sum_in vectors n a) (a n) (sum_in vectors n e) (e n) (sum_in sizes n r) (r n) f g (covers6-sum n a e r f g (λ k p. c k (omega arith))) (c n (omega arith))

pub covers6-times : (k n : ℤ) (rk : ℕ) (s m : Spatial ℤ) (rs : Spatial ℕ) (f h g e : ℕ) → Covers k rk f n (2 ^ g) → Covers6 s rs h m e → Covers6 (times6 k s) (times6_width k rk s rs) (f + h) (times6 n m) (g + e)
covers6-times k n rk s m rs f h g e p q = record {
  ang = covers3-times k n rk s.ang m.ang rs.ang f h g e p q.ang;
  lin = covers3-times k n rk s.lin m.lin rs.lin f h g e p q.lin;
}

pub covers-pair : (s f n m : Spatial ℤ) (rs rf : Spatial ℕ) (a b g k : ℕ) → Covers6 s rs a n g → Covers6 f rf b m k → Covers (pair s f) (pair_width s rs f rf) (a + b) (pair n m) (2 ^ (g + k))
covers-pair s f n m rs rf a b g k p q =
    covers-add (dot s.ang f.ang) (dot s.lin f.lin) (dot n.ang m.ang) (dot n.lin m.lin) (dot_width s.ang rs.ang f.ang rf.ang) (dot_width s.lin rs.lin f.lin rf.lin) (a + b) (2 ^ (g + k))
    (covers-dot s.ang f.ang n.ang m.ang rs.ang rf.ang a b g k p.ang q.ang)
    (covers-dot s.lin f.lin n.lin m.lin rs.lin rf.lin a b g k p.lin q.lin)

pub covers6-motion_cross : (v s n m : Spatial ℤ) (rv rs : Spatial ℕ) (f h g k : ℕ) → Covers6 v rv f n g → Covers6 s rs h m k → Covers6 (motion_cross v s) (motion_cross_width v rv s rs) (f + h) (motion_cross n m) (g + k)
covers6-motion_cross v s n m rv rs f h g k p q = record {
  ang = covers3-cross v.ang s.ang n.ang m.ang rv.ang rs.ang f h g k p.ang q.ang;
  lin = covers3-add (cross v.lin s.ang) (cross v.ang s.lin) (cross n.lin m.ang) (cross n.ang m.lin) (cross_width v.lin rv.lin s.ang rs.ang) (cross_width v.ang rv.ang s.lin rs.lin) (f + h) (g + k)
      (covers3-cross v.lin s.ang n.lin m.ang rv.lin rs.ang f h g k p.lin q.ang)
      (covers3-cross v.ang s.lin n.ang m.lin rv.ang rs.lin f h g k p.ang q.lin);
}

pub covers6-force_cross : (v w n m : Spatial ℤ) (rv rw : Spatial ℕ) (f h g k : ℕ) → Covers6 v rv f n g → Covers6 w rw h m k → Covers6 (force_cross v w) (force_cross_width v rv w rw) (f + h) (force_cross n m) (g + k)
covers6-force_cross v w n m rv rw f h g k p q = record {
  ang = covers3-add (cross v.ang w.ang) (cross v.lin w.lin) (cross n.ang m.ang) (cross n.lin m.lin) (cross_width v.ang rv.ang w.ang rw.ang) (cross_width v.lin rv.lin w.lin rw.lin) (f + h) (g + k)
      (covers3-cross v.ang w.ang n.ang m.ang rv.ang rw.ang f h g k p.ang q.ang)
      (covers3-cross v.lin w.lin n.lin m.lin rv.lin rw.lin f h g k p.lin q.lin);
  lin = covers3-cross v.ang w.lin n.ang m.lin rv.ang rw.lin f h g k p.ang q.lin;
}

-- an exact inertia at scale e times a covered motion
pub covers6-inertia : (i : Inertia) (s n : Spatial ℤ) (r : Spatial ℕ) (e f g : ℕ) → Covers6 s r f n g → Covers6 (inertia_times i s) (inertia_width i r) (e + f) (inertia_times i n) (e + g)
covers6-inertia i s n r e f g c = record {
  ang = covers3-add (turned i s.ang) (cross i.moment s.lin) (turned i n.ang) (cross i.moment n.lin) (turned_width i r.ang) (exact_cross_width i.moment r.lin) (e + f) (e + g)
      (covers3-turned i s.ang n.ang r.ang e f g c.ang)
      (covers3-exact_cross i.moment s.lin n.lin r.lin e f g c.lin);
  lin = covers3-less (times i.mass s.lin) (cross i.moment s.ang) (times i.mass n.lin) (cross i.moment n.ang) (exact_times_width i.mass r.lin) (exact_cross_width i.moment r.ang) (e + f) (e + g)
      (covers3-exact_times i.mass s.lin n.lin r.lin e f g c.lin)
      (covers3-exact_cross i.moment s.ang n.ang r.ang e f g c.ang);
}

pub covers6-settled : (s n : Spatial ℤ) (w : Spatial ℕ) (f p g : ℕ) → f ≤ p → Covers6 s w p n g → Covers6 (settled6 s (p - f)) (radii6 settled_radius s w (p - f)) f n g
covers6-settled s n w f p g h c = record {
  ang = covers3-settled s.ang n.ang w.ang f p g h c.ang;
  lin = covers3-settled s.lin n.lin w.lin f p g h c.lin;
}

pub covers6-raised : (a n : Spatial ℤ) (r : Spatial ℕ) (f g k : ℕ) → Covers6 a r f n g → Covers6 a r f (raised6 n k) (g + k)
covers6-raised a n r f g k c = record { ang = covers3-raised a.ang n.ang r.ang f g k c.ang; lin = covers3-raised a.lin n.lin r.lin f g k c.lin }
