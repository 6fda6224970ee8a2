-- Covered numbers give covered sums, products, rounded sums, quotients and roots.
use Rattle.std.proofs.Common.{◌≡◌, ℕ, ◌+◌, ◌-◌, ◌*◌, ◌^◌, ◌<◌, ◌≤◌, ℤ, pos, ◌+ℤ◌, ◌-ℤ◌, ◌*ℤ◌, unsigned_abs, ap, ◌∙◌, arith, pow_pos, mul-le-mul, mul-le-mul_right, le_of_mul-le-mul_right}
use Rattle.std.proofs.lemmas.Int.{ints, unsigned_abs-mul}
use Rattle.fx_whole.proofs.Powers.{pow-add_ℤ}
use Rattle.fx_whole.proofs.Ring.{ring, abs-add, abs_mul_le}
use Rattle.fx_whole.proofs.LeastLaws.{ceil_div-least}
use Rattle.fx_whole.specs.Least.{ceil_div}
use Rattle.fx_num.specs.Radii.{product_width}
use Rattle.fx_num.specs.Settled.{settled_mid, rounding_loss}
use Rattle.fx_near.specs.Widths.{settled_radius}
use Rattle.fx_near.specs.Covers.{Covers}

-- a quotient rounded up, times its divisor, is at least what was divided
pub ceil_div_holds : (a b : ℕ) → 0 < b → a ≤ ceil_div a b * b
ceil_div_holds a b h = (ceil_div-least a b h).holds

pub times : (d e : ℕ) → 0 < d → 0 < e → 0 < d * e
times d e h k = omega (arith, mul-le-mul h k)

-- ---- an exact value, and sums
pub exact-covers : (x : ℤ) (f : ℕ) → Covers x 0 f x (2 ^ f)
exact-covers x f = record { positive = pow_pos f; bound = omega (arith, ints) }

sum_split : (n a m b s d e : ℤ) → (n *ℤ e +ℤ m *ℤ d) *ℤ s -ℤ (a +ℤ b) *ℤ (d *ℤ e) ≡ (n *ℤ s -ℤ a *ℤ d) *ℤ e +ℤ (m *ℤ s -ℤ b *ℤ e) *ℤ d
sum_split n a m b s d e = simp ring (omega (arith, ints))

pub sum-covers : (a b n m : ℤ) (w v f d e : ℕ) → Covers a w f n d → Covers b v f m e → Covers (a +ℤ b) (w + v) f (n *ℤ pos e +ℤ m *ℤ pos d) (d * e)
sum-covers a b n m w v f d e p q =
    let x : ℤ = n *ℤ pos (2 ^ f) -ℤ a *ℤ pos d in
    let y : ℤ = m *ℤ pos (2 ^ f) -ℤ b *ℤ pos e in
    let h : unsigned_abs (x *ℤ pos e) ≤ w * d * e = abs_mul_le x (pos e) (w * d) e p.bound (omega arith) in
    let k : unsigned_abs (y *ℤ pos d) ≤ v * e * d = abs_mul_le y (pos d) (v * e) d q.bound (omega arith) in
    record {
      positive = times d e p.positive q.positive;
      bound = rw (sum_split n a m b (pos (2 ^ f)) (pos d) (pos e)) (omega (arith, abs-add (x *ℤ pos e) (y *ℤ pos d)));
    }

-- ---- products
product_split : (x u y v : ℤ) → x *ℤ y -ℤ u *ℤ v ≡ (x -ℤ u) *ℤ (y -ℤ v) +ℤ (u *ℤ (y -ℤ v) +ℤ v *ℤ (x -ℤ u))
product_split x u y v = simp ring (omega (arith, ints))

near_product : (x u y v : ℤ) (p q : ℕ) → unsigned_abs (x -ℤ u) ≤ p → unsigned_abs (y -ℤ v) ≤ q → unsigned_abs (x *ℤ y -ℤ u *ℤ v) ≤ p * q + unsigned_abs u * q + unsigned_abs v * p
near_product x u y v p q h k =
    let a = abs_mul_le (x -ℤ u) (y -ℤ v) p q h k in
    let b = abs_mul_le u (y -ℤ v) (unsigned_abs u) q (omega arith) k in
    let c = abs_mul_le v (x -ℤ u) (unsigned_abs v) p (omega arith) h in
    rw (product_split x u y v) (omega (arith, abs-add ((x -ℤ u) *ℤ (y -ℤ v)) (u *ℤ (y -ℤ v) +ℤ v *ℤ (x -ℤ u)), abs-add (u *ℤ (y -ℤ v)) (v *ℤ (x -ℤ u))))

four : (a b c d : ℤ) → (a *ℤ b) *ℤ (c *ℤ d) ≡ (a *ℤ c) *ℤ (b *ℤ d)
four a b c d = simp ring

pub product-covers : (a b n m : ℤ) (ra rb f g d e : ℕ) → Covers a ra f n d → Covers b rb g m e → Covers (a *ℤ b) (product_width a ra b rb) (f + g) (n *ℤ m) (d * e)
product-covers a b n m ra rb f g d e p q =
    let x : ℤ = n *ℤ pos (2 ^ f) in
    let u : ℤ = a *ℤ pos d in
    let y : ℤ = m *ℤ pos (2 ^ g) in
    let v : ℤ = b *ℤ pos e in
    let top : (n *ℤ m) *ℤ pos (2 ^ (f + g)) ≡ x *ℤ y = ap (λ k. (n *ℤ m) *ℤ k) (pow-add_ℤ f g) ∙ four n m (pos (2 ^ f)) (pos (2 ^ g)) in
    let mid : (a *ℤ b) *ℤ pos (d * e) ≡ u *ℤ v = four a b (pos d) (pos e) in
    let near : unsigned_abs (x *ℤ y -ℤ u *ℤ v) ≤ ra * d * (rb * e) + unsigned_abs u * (rb * e) + unsigned_abs v * (ra * d) = near_product x u y v (ra * d) (rb * e) p.bound q.bound in
    let near' : unsigned_abs (x *ℤ y -ℤ u *ℤ v) ≤ ra * d * (rb * e) + unsigned_abs a * d * (rb * e) + unsigned_abs b * e * (ra * d) = rw (unsigned_abs-mul a (pos d), unsigned_abs-mul b (pos e)) at near in
    record { positive = times d e p.positive q.positive; bound = rw (top, mid) (omega (arith, near')) }

-- ---- a sum that is rounded
settled_split : (n acc q s t d : ℤ) → (n *ℤ s -ℤ q *ℤ d) *ℤ t ≡ (n *ℤ (s *ℤ t) -ℤ acc *ℤ d) +ℤ (acc -ℤ q *ℤ t) *ℤ d
settled_split n acc q s t d = simp ring (omega (arith, ints))

-- off by t times too much
over_divisor : (x : ℤ) (r d t w : ℕ) → 0 < t → unsigned_abs (x *ℤ pos t) ≤ w * d → w ≤ r * t → unsigned_abs x ≤ r * d
over_divisor x r d t w h k l =
    let p : unsigned_abs x * t ≤ w * d = rw (unsigned_abs-mul x (pos t)) at k in
    le_of_mul-le-mul_right {k = t} (omega (arith, mul-le-mul_right d l)) h

pub settled-covers : (acc n : ℤ) (w f p d : ℕ) → f ≤ p → Covers acc w p n d → Covers (settled_mid acc (p - f)) (settled_radius w (rounding_loss acc (p - f)) (p - f)) f n d
settled-covers acc n w f p d h c =
    let t : ℕ = 2 ^ (p - f) in
    let q : ℤ = settled_mid acc (p - f) in
    let whole : pos (2 ^ p) ≡ pos (2 ^ f) *ℤ pos t = ap (λ (k : ℕ). pos (2 ^ k)) (omega arith) ∙ pow-add_ℤ f (p - f) in
    let sum : unsigned_abs (n *ℤ (pos (2 ^ f) *ℤ pos t) -ℤ acc *ℤ pos d) ≤ w * d = rw whole at c.bound in
    let lost : unsigned_abs ((acc -ℤ q *ℤ pos t) *ℤ pos d) ≤ rounding_loss acc (p - f) * d = abs_mul_le (acc -ℤ q *ℤ pos t) (pos d) (rounding_loss acc (p - f)) d (omega arith) (omega arith) in
    record {
      positive = c.positive;
      bound = over_divisor (n *ℤ pos (2 ^ f) -ℤ q *ℤ pos d) (settled_radius w (rounding_loss acc (p - f)) (p - f)) d t (w + rounding_loss acc (p - f)) (pow_pos (p - f))
          (rw (settled_split n acc q (pos (2 ^ f)) (pos t) (pos d)) (omega (arith, abs-add (n *ℤ (pos (2 ^ f) *ℤ pos t) -ℤ acc *ℤ pos d) ((acc -ℤ q *ℤ pos t) *ℤ pos d))))
          (ceil_div_holds (w + rounding_loss acc (p - f)) t (pow_pos (p - f)));
    }
