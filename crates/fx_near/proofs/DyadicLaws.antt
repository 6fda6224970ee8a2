-- Covering of exact numbers over one denominator, above all a power of two: what is added, multiplied, rounded or chosen.
use Rattle.std.proofs.Common.{◌≡◌, ℕ, zero, suc, ◌+◌, ◌-◌, ◌*◌, ◌^◌, ◌<◌, ◌≤◌, ℤ, pos, ◌+ℤ◌, ◌-ℤ◌, ◌*ℤ◌, unsigned_abs, subst, sym, arith, pow_pos, pow-add, mul-le-mul_right}
use Rattle.std.proofs.lemmas.Int.{ints, unsigned_abs-mul}
use Rattle.fx_whole.specs.Sums.{sum_to, sum_ℕ_to}
use Rattle.fx_whole.proofs.Ring.{ring, abs-add, abs-sub}
use Rattle.fx_num.specs.Radii.{product_width}
use Rattle.fx_num.specs.Settled.{settled_mid, rounding_loss}
use Rattle.fx_near.specs.Widths.{settled_radius}
use Rattle.fx_near.specs.Covers.{Covers}
use Rattle.fx_near.proofs.CoverLaws.{exact-covers, product-covers, settled-covers}

-- ---- over any common denominator
pub covers-zero : (f d : ℕ) → 0 < d → Covers (pos 0) 0 f (pos 0) d
covers-zero f d h = record { positive = h; bound = zero_bound (2 ^ f) d }
  where
    zero_bound : (s d : ℕ) → unsigned_abs (pos 0 *ℤ pos s -ℤ pos 0 *ℤ pos d) ≤ 0 * d
    zero_bound s d = omega (arith, ints)

add_split : (n a m b s d : ℤ) → (n +ℤ m) *ℤ s -ℤ (a +ℤ b) *ℤ d ≡ (n *ℤ s -ℤ a *ℤ d) +ℤ (m *ℤ s -ℤ b *ℤ d)
add_split n a m b s d = simp ring (omega (arith, ints))

pub covers-add : (a b n m : ℤ) (w v f d : ℕ) → Covers a w f n d → Covers b v f m d → Covers (a +ℤ b) (w + v) f (n +ℤ m) d
covers-add a b n m w v f d p q =
    let x : ℤ = n *ℤ pos (2 ^ f) -ℤ a *ℤ pos d in
    let y : ℤ = m *ℤ pos (2 ^ f) -ℤ b *ℤ pos d in
    record { positive = p.positive; bound = rw (add_split n a m b (pos (2 ^ f)) (pos d)) (omega (arith, abs-add x y, p.bound, q.bound)) }

less_split : (n a m b s d : ℤ) → (n -ℤ m) *ℤ s -ℤ (a -ℤ b) *ℤ d ≡ (n *ℤ s -ℤ a *ℤ d) -ℤ (m *ℤ s -ℤ b *ℤ d)
less_split n a m b s d = simp ring (omega (arith, ints))

-- the width of a difference is that of the sum
pub covers-less : (a b n m : ℤ) (w v f d : ℕ) → Covers a w f n d → Covers b v f m d → Covers (a -ℤ b) (w + v) f (n -ℤ m) d
covers-less a b n m w v f d p q =
    let x : ℤ = n *ℤ pos (2 ^ f) -ℤ a *ℤ pos d in
    let y : ℤ = m *ℤ pos (2 ^ f) -ℤ b *ℤ pos d in
    record { positive = p.positive; bound = rw (less_split n a m b (pos (2 ^ f)) (pos d)) (omega (arith, abs-sub x y, p.bound, q.bound)) }

pub covers-sum : (n : ℕ) (a e : ℕ → ℤ) (r : ℕ → ℕ) (f d : ℕ) → 0 < d → ((k : ℕ) → k < n → Covers (a k) (r k) f (e k) d) → Covers (sum_to n a) (sum_ℕ_to n r) f (sum_to n e) d
covers-sum zero a e r f d h c = covers-zero f d h
covers-sum (suc n) a e r f d h c =
    covers-add (sum_to n a) (a n) (sum_to n e) (e n) (sum_ℕ_to n r) (r n) f d (covers-sum n a e r f d h (λ k p. c k (omega arith))) (c n (omega arith))

-- ---- over powers of two
pub covers-product : (a b n m : ℤ) (ra rb f h g k : ℕ) → Covers a ra f n (2 ^ g) → Covers b rb h m (2 ^ k) → Covers (a *ℤ b) (product_width a ra b rb) (f + h) (n *ℤ m) (2 ^ (g + k))
covers-product a b n m ra rb f h g k p q =
    subst (λ d. Covers (a *ℤ b) (product_width a ra b rb) (f + h) (n *ℤ m) d) (sym (pow-add 2 g k)) (product-covers a b n m ra rb f h (2 ^ g) (2 ^ k) p q)

-- by an exact factor k at scale e
pub covers-scaled : (k a n : ℤ) (r e f g : ℕ) → Covers a r f n (2 ^ g) → Covers (k *ℤ a) (unsigned_abs k * r) (e + f) (k *ℤ n) (2 ^ (e + g))
covers-scaled k a n r e f g p =
    let whole : product_width k 0 a r ≡ unsigned_abs k * r = omega arith in
    subst (λ w. Covers (k *ℤ a) w (e + f) (k *ℤ n) (2 ^ (e + g))) whole (covers-product k a k n 0 r e f e g (exact-covers k e) p)

pub covers-settled : (sum n : ℤ) (w f p g : ℕ) → f ≤ p → Covers sum w p n (2 ^ g) → Covers (settled_mid sum (p - f)) (settled_radius w (rounding_loss sum (p - f)) (p - f)) f n (2 ^ g)
covers-settled sum n w f p g h c = settled-covers sum n w f p (2 ^ g) h c

raised_split : (n a s d t : ℤ) → (n *ℤ t) *ℤ s -ℤ a *ℤ (d *ℤ t) ≡ (n *ℤ s -ℤ a *ℤ d) *ℤ t
raised_split n a s d t = simp ring (omega (arith, ints))

-- the same number over a greater power
pub covers-raised : (a n : ℤ) (r f g k : ℕ) → Covers a r f n (2 ^ g) → Covers a r f (n *ℤ pos (2 ^ k)) (2 ^ (g + k))
covers-raised a n r f g k c =
    subst (λ d. Covers a r f (n *ℤ pos (2 ^ k)) d) (sym (pow-add 2 g k)) (over (2 ^ g) (2 ^ k) (pow_pos g) (pow_pos k) c.bound)
  where
    over : (d t : ℕ) → 0 < d → 0 < t → unsigned_abs (n *ℤ pos (2 ^ f) -ℤ a *ℤ pos d) ≤ r * d → Covers a r f (n *ℤ pos t) (d * t)
    over d t h i b =
        record { positive = omega (arith, mul-le-mul_right t h); bound = rw (raised_split n a (pos (2 ^ f)) (pos d) (pos t), unsigned_abs-mul (n *ℤ pos (2 ^ f) -ℤ a *ℤ pos d) (pos t)) (omega (arith, mul-le-mul_right t b)) }
