-- The quotient of covered numbers is covered.
use Rattle.std.proofs.Common.{◌≡◌, ℕ, ◌+◌, ◌-◌, ◌*◌, ◌^◌, ◌<◌, ◌≤◌, ℤ, pos, negsuc, ◌+ℤ◌, ◌-ℤ◌, ◌*ℤ◌, ◌<ℤ◌, ◌≤ℤ◌, unsigned_abs, ap, ◌∙◌, arith, pow_pos, mul-le-mul_left, mul-le-mul_right, le_of_mul-le-mul_right}
use Rattle.std.proofs.lemmas.Int.{ints, unsigned_abs-mul}
use Rattle.fx_whole.proofs.Ring.{ring, abs-add, abs-sub, abs_mul_le, abs_nonneg, mul_mono, lt_of_mul}
use Rattle.fx_near.specs.Widths.{quotient_mid, quotient_radius}
use Rattle.fx_near.specs.Covers.{Covers, CoversQuotient}
use Rattle.fx_near.proofs.CoverLaws.{ceil_div_holds, times}

quotient_split : (n a m b s d e q : ℤ) → ((n *ℤ e) *ℤ s -ℤ q *ℤ (d *ℤ m)) *ℤ s ≡ ((n *ℤ s -ℤ a *ℤ d) *ℤ (e *ℤ s) -ℤ (q *ℤ d) *ℤ (m *ℤ s -ℤ b *ℤ e)) +ℤ (a *ℤ s -ℤ q *ℤ b) *ℤ (d *ℤ e)
quotient_split n a m b s d e q = simp ring (omega (arith, ints))

-- the three errors: of the operand, of the divisor, and of the rounding
spread_errors : (n a m b q : ℤ) (ra rb s d e : ℕ) → unsigned_abs (n *ℤ pos s -ℤ a *ℤ pos d) ≤ ra * d → unsigned_abs (m *ℤ pos s -ℤ b *ℤ pos e) ≤ rb * e
    → unsigned_abs (((n *ℤ pos e) *ℤ pos s -ℤ q *ℤ (pos d *ℤ m)) *ℤ pos s) ≤ (ra * s + unsigned_abs q * rb + unsigned_abs (a *ℤ pos s -ℤ q *ℤ b)) * (d * e)
spread_errors n a m b q ra rb s d e h k =
    let x : ℤ = n *ℤ pos s -ℤ a *ℤ pos d in
    let y : ℤ = m *ℤ pos s -ℤ b *ℤ pos e in
    let z : ℤ = a *ℤ pos s -ℤ q *ℤ b in
    let one : unsigned_abs (x *ℤ pos (e * s)) ≤ ra * d * (e * s) = abs_mul_le x (pos (e * s)) (ra * d) (e * s) h (omega arith) in
    let qd : unsigned_abs (q *ℤ pos d) ≤ unsigned_abs q * d = abs_mul_le q (pos d) (unsigned_abs q) d (omega arith) (omega arith) in
    let two : unsigned_abs ((q *ℤ pos d) *ℤ y) ≤ unsigned_abs q * d * (rb * e) = abs_mul_le (q *ℤ pos d) y (unsigned_abs q * d) (rb * e) qd k in
    let three : unsigned_abs (z *ℤ pos (d * e)) ≤ unsigned_abs z * (d * e) = abs_mul_le z (pos (d * e)) (unsigned_abs z) (d * e) (omega arith) (omega arith) in
    rw (quotient_split n a m b (pos s) (pos d) (pos e) q)
    (omega (arith, abs-add (x *ℤ pos (e * s) -ℤ (q *ℤ pos d) *ℤ y) (z *ℤ pos (d * e)), abs-sub (x *ℤ pos (e * s)) ((q *ℤ pos d) *ℤ y)))

-- what b, off by at most rb < b, covers is above zero
divisor_positive : (m b : ℤ) (rb s e : ℕ) → 0 < s → 0 < e → pos rb <ℤ b → unsigned_abs (m *ℤ pos s -ℤ b *ℤ pos e) ≤ rb * e → pos 0 <ℤ m
divisor_positive m b rb s e hs he hb k =
    let grown : (pos (rb + 1) *ℤ pos e) ≤ℤ (b *ℤ pos e) = mul_mono (pos (rb + 1)) b (pos e) (omega (arith, ints)) (omega (arith, ints)) in
    let above : (pos 0 *ℤ pos s) <ℤ (m *ℤ pos s) = omega (arith, ints) in
    lt_of_mul (pos 0) m (pos s) (omega (arith, ints)) above

-- and at least b - rb
divisor_size : (m b : ℤ) (rb s e : ℕ) → pos 0 <ℤ m → pos rb <ℤ b → unsigned_abs (m *ℤ pos s -ℤ b *ℤ pos e) ≤ rb * e → (unsigned_abs b - rb) * e ≤ unsigned_abs m * s
divisor_size (negsuc m) b rb s e hm hb k = absurd (omega (arith, ints))
divisor_size (pos m) (negsuc b) rb s e hm hb k = absurd (omega (arith, ints))
divisor_size (pos m) (pos b) rb s e hm hb k = with_rest (b - rb) (omega (arith, ints))
  where
    with_rest : (c : ℕ) → b ≡ rb + c → c * e ≤ m * s
    with_rest c f = let g : b * e ≡ rb * e + c * e = ap (λ (x : ℕ). x * e) f ∙ omega arith in omega (arith, ints)

finish : (x s error r c d e m : ℕ) → 0 < s → x * s ≤ error * (d * e) → error ≤ r * c → c * e ≤ m * s → x ≤ r * (d * m)
finish x s error r c d e m h k l g =
    let p : error * (d * e) ≤ r * c * (d * e) = mul-le-mul_right (d * e) l in
    let q : r * d * (c * e) ≤ r * d * (m * s) = mul-le-mul_left (r * d) g in
    le_of_mul-le-mul_right {k = s} (omega arith) h

quotient_bound : (n a m b q : ℤ) (ra rb s d e r : ℕ) → 0 < s → pos 0 <ℤ m → pos rb <ℤ b → unsigned_abs (n *ℤ pos s -ℤ a *ℤ pos d) ≤ ra * d → unsigned_abs (m *ℤ pos s -ℤ b *ℤ pos e) ≤ rb * e
    → ra * s + unsigned_abs q * rb + unsigned_abs (a *ℤ pos s -ℤ q *ℤ b) ≤ r * (unsigned_abs b - rb)
    → unsigned_abs ((n *ℤ pos e) *ℤ pos s -ℤ q *ℤ pos (d * unsigned_abs m)) ≤ r * (d * unsigned_abs m)
quotient_bound n a m b q ra rb s d e r hs hm hb h k l =
    let x : ℤ = (n *ℤ pos e) *ℤ pos s -ℤ q *ℤ (pos d *ℤ m) in
    let spread = spread_errors n a m b q ra rb s d e h k in
    let spread' : unsigned_abs x * s ≤ (ra * s + unsigned_abs q * rb + unsigned_abs (a *ℤ pos s -ℤ q *ℤ b)) * (d * e) = rw (unsigned_abs-mul x (pos s)) at spread in
    let same : pos (d * unsigned_abs m) ≡ pos d *ℤ m = ap (λ y. pos d *ℤ y) (abs_nonneg m (omega (arith, ints))) in
    rw same (finish (unsigned_abs x) s (ra * s + unsigned_abs q * rb + unsigned_abs (a *ℤ pos s -ℤ q *ℤ b)) r (unsigned_abs b - rb) d e (unsigned_abs m) hs spread' l (divisor_size m b rb s e hm hb k))

pub quotient-covers : (a b n m : ℤ) (ra rb f d e : ℕ) → pos rb <ℤ b → Covers a ra f n d → Covers b rb f m e → CoversQuotient (quotient_mid f a b) (quotient_radius f a ra b rb) f n d m e
quotient-covers a b n m ra rb f d e h p q =
    let positive : pos 0 <ℤ m = divisor_positive m b rb (2 ^ f) e (pow_pos f) q.positive h q.bound in
    record {
      divisor = positive;
      quotient = record {
        positive = times d (unsigned_abs m) p.positive (omega (arith, ints));
        bound = quotient_bound n a m b (quotient_mid f a b) ra rb (2 ^ f) d e (quotient_radius f a ra b rb) (pow_pos f) positive h p.bound q.bound
            (ceil_div_holds (ra * 2 ^ f + unsigned_abs (quotient_mid f a b) * rb + unsigned_abs (a *ℤ pos (2 ^ f) -ℤ quotient_mid f a b *ℤ b)) (unsigned_abs b - rb) (omega (arith, ints)));
      };
    }
