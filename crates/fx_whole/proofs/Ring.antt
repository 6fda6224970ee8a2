-- ℤ as an ordered ring, as far as std lacks it. Each number is read as a difference of two naturals (`up`, `down`), whose products `omega` multiplies out.
use Rattle.std.proofs.Common.{◌≡◌, ℕ, zero, suc, ◌+◌, ◌*◌, ◌≤◌, ℤ, pos, negsuc, ◌+ℤ◌, ◌-ℤ◌, ◌*ℤ◌, neg_ℤ, ◌<ℤ◌, ◌≤ℤ◌, sym, ap, ◌∙◌, arith, refl, unsigned_abs, mul-le-mul}
use Rattle.std.proofs.lemmas.Int.{ints, by_lt_z, unsigned_abs-mul}
use borrow.Author.Differences.{up, down, same_in, sum_is_lem, product_is, neg_is}
use lib.IntN.{*ℤ_comm, neg_ℤ-neg_ℤ, neg_ℤ-+ℤ, zero-*ℤ, *ℤ-zero, +ℤ_idl, +ℤ_idr, +ℤ_comm, +ℤ_assoc}

-- ---- equations
pub *ℤ_distrib_left : (a b c : ℤ) → a *ℤ (b +ℤ c) ≡ a *ℤ b +ℤ a *ℤ c
*ℤ_distrib_left a b c =
    same_in (a *ℤ (b +ℤ c)) (a *ℤ b +ℤ a *ℤ c)
    (omega (arith, product_is a (b +ℤ c), product_is a b, product_is a c, sum_is_lem (a *ℤ b) (a *ℤ c), ap (λ n. up a * n) (sum_is_lem b c), ap (λ n. down a * n) (sum_is_lem b c)))

pub *ℤ_distrib_right : (a b c : ℤ) → (a +ℤ b) *ℤ c ≡ a *ℤ c +ℤ b *ℤ c
*ℤ_distrib_right a b c =
    *ℤ_comm (a +ℤ b) c ∙ *ℤ_distrib_left c a b ∙ ap (λ x. x +ℤ c *ℤ b) (*ℤ_comm c a) ∙ ap (λ x. a *ℤ c +ℤ x) (*ℤ_comm c b)

pub *ℤ_assoc : (a b c : ℤ) → (a *ℤ b) *ℤ c ≡ a *ℤ (b *ℤ c)
*ℤ_assoc a b c =
    same_in ((a *ℤ b) *ℤ c) (a *ℤ (b *ℤ c))
    (omega (
      arith,
      product_is (a *ℤ b) c,
      product_is a (b *ℤ c),
      ap (λ n. n * up c) (product_is a b).0,
      ap (λ n. n * down c) (product_is a b).0,
      ap (λ n. n * up c) (product_is a b).1,
      ap (λ n. n * down c) (product_is a b).1,
      ap (λ n. up a * n) (product_is b c).0,
      ap (λ n. down a * n) (product_is b c).0,
      ap (λ n. up a * n) (product_is b c).1,
      ap (λ n. down a * n) (product_is b c).1,
    ))

pub *ℤ_left_comm : (a b c : ℤ) → a *ℤ (b *ℤ c) ≡ b *ℤ (a *ℤ c)
*ℤ_left_comm a b c = sym (*ℤ_assoc a b c) ∙ ap (λ x. x *ℤ c) (*ℤ_comm a b) ∙ *ℤ_assoc b a c

pub *ℤ-pos_one : (a : ℤ) → a *ℤ pos 1 ≡ a
*ℤ-pos_one a = omega (arith, ints)

pub pos_one-*ℤ : (a : ℤ) → pos 1 *ℤ a ≡ a
pos_one-*ℤ a = omega (arith, ints)

pub *ℤ-neg_ℤ : (a b : ℤ) → a *ℤ neg_ℤ b ≡ neg_ℤ (a *ℤ b)
*ℤ-neg_ℤ a b =
    same_in (a *ℤ neg_ℤ b) (neg_ℤ (a *ℤ b))
    (omega (arith, product_is a (neg_ℤ b), product_is a b, neg_is (a *ℤ b), ap (λ n. up a * n) (neg_is b).0, ap (λ n. down a * n) (neg_is b).0, ap (λ n. up a * n) (neg_is b).1, ap (λ n. down a * n) (neg_is b).1))

pub neg_ℤ-*ℤ : (a b : ℤ) → neg_ℤ a *ℤ b ≡ neg_ℤ (a *ℤ b)
neg_ℤ-*ℤ a b = *ℤ_comm (neg_ℤ a) b ∙ *ℤ-neg_ℤ b a ∙ ap neg_ℤ (*ℤ_comm b a)

pub *ℤ-pos_two : (a : ℤ) → a *ℤ pos 2 ≡ a +ℤ a
*ℤ-pos_two a = omega (arith, ints)

pub pos_two-*ℤ : (a : ℤ) → pos 2 *ℤ a ≡ a +ℤ a
pos_two-*ℤ a = omega (arith, ints)

-- for `simp ring (omega (arith, ints))`: products are multiplied out and sorted, and `omega` adds up the terms.
-- A number in a product, other than 1 or 2, has to be a variable of the lemma
pub ruleset ring = (*ℤ_distrib_left, *ℤ_distrib_right, *ℤ_assoc, *ℤ_comm, *ℤ_left_comm, *ℤ-neg_ℤ, neg_ℤ-*ℤ, neg_ℤ-+ℤ, neg_ℤ-neg_ℤ, *ℤ-pos_one, pos_one-*ℤ, *ℤ-pos_two, pos_two-*ℤ, zero-*ℤ, *ℤ-zero)

-- ---- order
pub mul_nonneg : (a b : ℤ) → pos 0 ≤ℤ a → pos 0 ≤ℤ b → pos 0 ≤ℤ (a *ℤ b)
mul_nonneg (pos a) (pos b) h k = omega (arith, ints)
mul_nonneg (pos a) (negsuc b) h k = absurd (omega (arith, ints))
mul_nonneg (negsuc a) b h k = absurd (omega (arith, ints))

pub mul_pos : (a b : ℤ) → pos 0 <ℤ a → pos 0 <ℤ b → pos 0 <ℤ (a *ℤ b)
mul_pos (pos zero) b h k = absurd (omega (arith, ints))
mul_pos (pos (suc a)) (pos zero) h k = absurd (omega (arith, ints))
mul_pos (pos (suc a)) (pos (suc b)) h k = omega (arith, ints)
mul_pos (pos (suc a)) (negsuc b) h k = absurd (omega (arith, ints))
mul_pos (negsuc a) b h k = absurd (omega (arith, ints))

pub square_nonneg : (a : ℤ) → pos 0 ≤ℤ (a *ℤ a)
square_nonneg (pos a) = omega (arith, ints)
square_nonneg (negsuc a) = omega (arith, ints)

-- a <= b, times k >= 0
pub mul_mono : (a b k : ℤ) → pos 0 ≤ℤ k → a ≤ℤ b → (a *ℤ k) ≤ℤ (b *ℤ k)
mul_mono a b k h l =
    let p : pos 0 ≤ℤ ((b +ℤ neg_ℤ a) *ℤ k) = mul_nonneg (b +ℤ neg_ℤ a) k h' h in
    omega (arith, ints, *ℤ_distrib_right b (neg_ℤ a) k, neg_ℤ-*ℤ a k)
  where
    h' : pos 0 ≤ℤ (b +ℤ neg_ℤ a)
    h' = omega (arith, ints)

-- a < b, times k > 0, in steps of k
pub mul_step : (a b k : ℤ) → pos 0 <ℤ k → a <ℤ b → (a *ℤ k +ℤ k) ≤ℤ (b *ℤ k)
mul_step a b k h l =
    let p : ((a +ℤ pos 1) *ℤ k) ≤ℤ (b *ℤ k) = mul_mono (a +ℤ pos 1) b k (omega (arith, ints)) (omega (arith, ints)) in
    omega (arith, ints, *ℤ_distrib_right a (pos 1) k, pos_one-*ℤ k)

-- the factor k > 0 taken away
pub nonneg_of_mul : (a k : ℤ) → pos 0 <ℤ k → pos 0 ≤ℤ (a *ℤ k) → pos 0 ≤ℤ a
nonneg_of_mul (pos a) k h l = omega (arith, ints)
nonneg_of_mul (negsuc a) (pos zero) h l = absurd (omega (arith, ints))
nonneg_of_mul (negsuc a) (pos (suc k)) h l = absurd (omega (arith, ints))
nonneg_of_mul (negsuc a) (negsuc k) h l = absurd (omega (arith, ints))

pub le_of_mul : (a b k : ℤ) → pos 0 <ℤ k → (a *ℤ k) ≤ℤ (b *ℤ k) → a ≤ℤ b
le_of_mul a b k h l =
    let p : pos 0 ≤ℤ (b +ℤ neg_ℤ a) = nonneg_of_mul (b +ℤ neg_ℤ a) k h (omega (arith, ints, *ℤ_distrib_right b (neg_ℤ a) k, neg_ℤ-*ℤ a k)) in
    omega (arith, ints)

pub lt_of_mul : (a b k : ℤ) → pos 0 <ℤ k → (a *ℤ k) <ℤ (b *ℤ k) → a <ℤ b
lt_of_mul a b k h l = by_lt_z a b (λ p. p) (λ p. absurd (turned (mul_mono b a k (omega (arith, ints)) p)))
  where
    turned : (b *ℤ k) ≤ℤ (a *ℤ k) → ⊥
    turned p = omega (arith, ints)

-- both factors grow, from 0 up
pub mul_mono_both : (a b c d : ℤ) → pos 0 ≤ℤ a → a ≤ℤ b → pos 0 ≤ℤ c → c ≤ℤ d → (a *ℤ c) ≤ℤ (b *ℤ d)
mul_mono_both a b c d h l k m =
    let p : (a *ℤ c) ≤ℤ (b *ℤ c) = mul_mono a b c k l in
    let q : (c *ℤ b) ≤ℤ (d *ℤ b) = mul_mono c d b (omega (arith, ints)) m in
    omega (arith, ints, *ℤ_comm b c, *ℤ_comm b d)

-- ---- sizes
pub abs-neg : (a : ℤ) → unsigned_abs (neg_ℤ a) ≡ unsigned_abs a
abs-neg a = omega (arith, ints)

pub abs-add : (a b : ℤ) → unsigned_abs (a +ℤ b) ≤ unsigned_abs a + unsigned_abs b
abs-add a b = omega (arith, ints)

pub abs-sub : (a b : ℤ) → unsigned_abs (a -ℤ b) ≤ unsigned_abs a + unsigned_abs b
abs-sub a b = omega (arith, ints)

pub abs_turned : (a b : ℤ) → unsigned_abs (a -ℤ b) ≡ unsigned_abs (b -ℤ a)
abs_turned a b = omega (arith, ints)

-- the way from a to c over b
pub abs_between : (a b c : ℤ) → unsigned_abs (a -ℤ c) ≤ unsigned_abs (a -ℤ b) + unsigned_abs (b -ℤ c)
abs_between a b c = omega (arith, ints)

pub abs_mul_le : (a b : ℤ) (m n : ℕ) → unsigned_abs a ≤ m → unsigned_abs b ≤ n → unsigned_abs (a *ℤ b) ≤ m * n
abs_mul_le a b m n h k = rw (unsigned_abs-mul a b) (mul-le-mul h k)

pub abs_nonneg : (a : ℤ) → pos 0 ≤ℤ a → pos (unsigned_abs a) ≡ a
abs_nonneg a h = omega (arith, ints)

-- 0 <= a <= b
pub abs_mono : (a b : ℤ) → pos 0 ≤ℤ a → a ≤ℤ b → unsigned_abs a ≤ unsigned_abs b
abs_mono a b h k = omega (arith, ints)

pub abs_square : (a : ℤ) → pos (unsigned_abs a * unsigned_abs a) ≡ a *ℤ a
abs_square (pos a) = refl
abs_square (negsuc a) = refl

-- ---- the ring at work
pub squares_apart : (a b : ℤ) → (a +ℤ b) *ℤ (a -ℤ b) ≡ a *ℤ a -ℤ b *ℤ b
squares_apart a b = simp ring (omega (arith, ints))
