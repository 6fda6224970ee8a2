-- The laws of the series and of the quarter turns (specs/Sine).
use Rattle.std.proofs.Common.{◌≡◌, ℕ, zero, suc, ◌+◌, ◌-◌, ◌*◌, ◌/◌, ◌%◌, ◌^◌, ◌<◌, ◌≤◌, ◌<ℤ◌, ℤ, pos, negsuc, ◌+ℤ◌, ◌-ℤ◌, ◌*ℤ◌, neg_ℤ, ◌≤ℤ◌, unsigned_abs, refl, sym, ap, ap₂, ◌∙◌, arith, mul-le-mul, mul-le-mul_left}
use Rattle.std.proofs.lemmas.Int.{ints, unsigned_abs-mul}
use Rattle.fx_whole.specs.Nearest.{nearest, IsNearest}
use Rattle.fx_whole.specs.Sums.{sum_to}
use Rattle.fx_whole.proofs.NearestLaws.{nearest-within, nearest-within_twice, nearest-neg, nearest-mono, nearest-zero, nearest-is_nearest, nearest-unique}
use Rattle.fx_whole.proofs.Ring.{neg_ℤ-*ℤ, *ℤ-neg_ℤ, square_nonneg, abs-add, abs-neg, abs_mul_le, mul_nonneg}
use Rattle.fx_whole.proofs.SumLaws.{sum_to-neg, sum_to-ext, sum_to-first}
use Rattle.mj_quat.specs.Sine.{quarter_turn, fine, quarters, rest, square, next_term, sine_term, cosine_term, sine_sum, cosine_sum, rest_sine, rest_cosine, quadrant, quadrant_sine, quadrant_cosine, sine_at, cosine_at, sine, cosine}

-- ---- sizes of terms
-- times z <= 2^60 and divided by m >= 2, a term is at most half as large, a tie being rounded down
halves : (a z h : ℕ) → 2 * h ≤ a → a ≤ 2 * h + 1 → (m e : ℕ) → 2 ≤ m → z ≤ e → 2 * (a * z) ≤ (2 * h + 1) * (m * e)
halves a z h p q m e r s =
    let u : a * z ≤ (2 * h + 1) * e = mul-le-mul q s in
    let v : ((2 * h + 1) * e) * 2 ≤ ((2 * h + 1) * e) * m = mul-le-mul_left ((2 * h + 1) * e) r in
    omega (arith)

pub next_term-half : (a z : ℤ) (m : ℕ) → 2 ≤ m → unsigned_abs z ≤ 2 ^ 60 → 2 * unsigned_abs (next_term a z m) ≤ unsigned_abs a
next_term-half a z m h k = half (unsigned_abs a / 2) (omega arith) (omega arith)
  where
    half : (l : ℕ) → 2 * l ≤ unsigned_abs a → unsigned_abs a ≤ 2 * l + 1 → 2 * unsigned_abs (next_term a z m) ≤ unsigned_abs a
    half l p q =
        let w : unsigned_abs (nearest (a *ℤ z) (pos (m * 2 ^ 60))) ≤ l = nearest-within_twice (a *ℤ z) (pos (m * 2 ^ 60)) l (rw (unsigned_abs-mul a z) (halves (unsigned_abs a) (unsigned_abs z) l p q m (2 ^ 60) h k)) in
        rw abs-neg (omega arith)

-- the terms of a series, each at most half the last
record Halving (f : ℕ → ℤ) : Type 0 where
  half : (n : ℕ) → 2 * unsigned_abs (f (suc n)) ≤ unsigned_abs (f n)

halving_sum : (f : ℕ → ℤ) → Halving f → (n : ℕ) → unsigned_abs (sum_to n f) + 2 * unsigned_abs (f n) ≤ 2 * unsigned_abs (f 0)
halving_sum f h zero = omega arith
halving_sum f h (suc n) = omega (arith, halving_sum f h n, h.half n, abs-add (sum_to n f) (f n))

halving-later : (f : ℕ → ℤ) → Halving f → Halving (λ n. f (suc n))
halving-later f h = record { half = λ n. h.half (suc n) }

halving-term : (f : ℕ → ℤ) → Halving f → (n : ℕ) → unsigned_abs (f n) ≤ unsigned_abs (f 0)
halving-term f h zero = omega arith
halving-term f h (suc n) = omega (arith, halving-term f h n, h.half n)

sine_halving : (t z : ℤ) → unsigned_abs z ≤ 2 ^ 60 → Halving (sine_term t z)
unfolding sine_term
sine_halving t z h = record { half = λ n. next_term-half (sine_term t z n) z ((2 * n + 2) * (2 * n + 3)) (omega arith) h }

cosine_halving : (z : ℤ) → unsigned_abs z ≤ 2 ^ 60 → Halving (cosine_term z)
unfolding cosine_term
cosine_halving z h = record { half = λ n. next_term-half (cosine_term z n) z ((2 * n + 1) * (2 * n + 2)) (omega arith) h }

-- ---- sizes of sums
-- the cosine's second term is at most 0, and the later ones together are at most as large
sum_of_two : (f : ℕ → ℤ) (n : ℕ) → Halving f → f 1 ≤ℤ pos 0 → pos (2 ^ 60) ≡ f 0 → unsigned_abs (sum_to (suc (suc n)) f) ≤ 2 ^ 60
sum_of_two f n h p e =
    let later : Halving (λ k. f (suc (suc k))) = halving-later (λ k. f (suc k)) (halving-later f h) in
    let s = halving_sum (λ k. f (suc (suc k))) later n in
    let first = sum_to-first (suc n) f in
    let second = sum_to-first n (λ k. f (suc k)) in
    omega (arith, ints, h.half 0, h.half 1)

-- the sine's later terms together are at most twice the second
sum_of_one : (f : ℕ → ℤ) (n : ℕ) → Halving f → unsigned_abs (sum_to (suc n) f) ≤ unsigned_abs (f 0) + 2 * unsigned_abs (f 1)
sum_of_one f n h =
    let s = halving_sum (λ k. f (suc k)) (halving-later f h) n in
    let first = sum_to-first n f in
    omega (arith, ints, abs-add (f 0) (sum_to n (λ k. f (suc k))))

-- |t| <= 13/16 gives |t^2| <= 169/256, and |t^3 / 6| <= 367/4096
pub square-size : (t : ℤ) → unsigned_abs t ≤ 13 * 2 ^ 56 → unsigned_abs (square t) ≤ 169 * 2 ^ 52
square-size t h = nearest-within (t *ℤ t) (pos (2 ^ 60)) (169 * 2 ^ 52) (omega (arith, abs_mul_le t t (13 * 2 ^ 56) (13 * 2 ^ 56) h h))

second-size : (t z : ℤ) → unsigned_abs t ≤ 13 * 2 ^ 56 → unsigned_abs z ≤ 169 * 2 ^ 52 → unsigned_abs (next_term t z 6) ≤ 367 * 2 ^ 48
second-size t z h k =
    let w : unsigned_abs (nearest (t *ℤ z) (pos (6 * 2 ^ 60))) ≤ 367 * 2 ^ 48 = nearest-within (t *ℤ z) (pos (6 * 2 ^ 60)) (367 * 2 ^ 48) (omega (arith, abs_mul_le t z (13 * 2 ^ 56) (169 * 2 ^ 52) h k)) in
    rw abs-neg w

sine_term-second : (t z : ℤ) → sine_term t z 1 ≡ next_term t z 6
unfolding sine_term
sine_term-second t z = refl

sine_term-first : (t z : ℤ) → sine_term t z 0 ≡ t
unfolding sine_term
sine_term-first t z = refl

cosine_term-first : (z : ℤ) → cosine_term z 0 ≡ pos (2 ^ 60)
unfolding cosine_term
cosine_term-first z = refl

cosine_term-second : (z : ℤ) → pos 0 ≤ℤ z → cosine_term z 1 ≤ℤ pos 0
unfolding cosine_term
cosine_term-second z h =
    let n : pos 0 ≤ℤ nearest (pos (2 ^ 60) *ℤ z) (pos (2 * 2 ^ 60)) = rw (← nearest-zero (pos (2 * 2 ^ 60))) (nearest-mono (pos 0) (pos (2 ^ 60) *ℤ z) (pos (2 * 2 ^ 60)) (mul_nonneg (pos (2 ^ 60)) z (omega (arith, ints)) h)) in
    omega (arith, ints, n)

square-nonneg : (t : ℤ) → pos 0 ≤ℤ square t
square-nonneg t = rw (← nearest-zero (pos (2 ^ 60))) (nearest-mono (pos 0) (t *ℤ t) (pos (2 ^ 60)) (square_nonneg t))

sine_terms-size : (t z : ℤ) (n : ℕ) → unsigned_abs t ≤ 13 * 2 ^ 56 → unsigned_abs z ≤ 169 * 2 ^ 52 → unsigned_abs (sum_to (suc n) (sine_term t z)) ≤ 2 ^ 60
sine_terms-size t z n h k =
    let s = sum_of_one (sine_term t z) n (sine_halving t z (omega arith)) in
    let first : unsigned_abs (sine_term t z 0) ≤ 13 * 2 ^ 56 = rw sine_term-first h in
    let second : unsigned_abs (sine_term t z 1) ≤ 367 * 2 ^ 48 = rw sine_term-second (second-size t z h k) in
    omega (arith, s)

cosine_terms-size : (z : ℤ) (n : ℕ) → pos 0 ≤ℤ z → unsigned_abs z ≤ 2 ^ 60 → unsigned_abs (sum_to (suc (suc n)) (cosine_term z)) ≤ 2 ^ 60
cosine_terms-size z n h k = sum_of_two (cosine_term z) n (cosine_halving z k) (cosine_term-second z h) (sym (cosine_term-first z))

pub rest_sine-size : (t : ℤ) → unsigned_abs t ≤ 13 * 2 ^ 56 → unsigned_abs (rest_sine t) ≤ 2 ^ 32
unfolding sine_sum
rest_sine-size t h = nearest-within (sum_to 9 (sine_term t (square t))) (pos (2 ^ 28)) (2 ^ 32) (sine_terms-size t (square t) 8 h (square-size t h))

pub rest_cosine-size : (t : ℤ) → unsigned_abs t ≤ 13 * 2 ^ 56 → unsigned_abs (rest_cosine t) ≤ 2 ^ 32
unfolding cosine_sum
rest_cosine-size t h = nearest-within (sum_to 9 (cosine_term (square t))) (pos (2 ^ 28)) (2 ^ 32) (cosine_terms-size (square t) 7 (square-nonneg t) (omega (arith, square-size t h)))

-- ---- the sums as the code forms them, two terms at a time
-- the term at n, and the sum of the terms up to it
pub record Summed (f : ℕ → ℤ) (n : ℕ) (term total : ℤ) : Type 0 where
  pub term_is : term ≡ f n
  pub total_is : total ≡ sum_to (suc n) f

pub sine-start : (t z : ℤ) → Summed (sine_term t z) 0 t t
unfolding sine_term
sine-start t z = record { term_is = refl; total_is = omega (arith, ints) }

pub cosine-start : (z a : ℤ) → a ≡ pos (2 ^ 60) → Summed (cosine_term z) 0 a a
unfolding cosine_term
cosine-start z a e = record { term_is = e; total_is = omega (arith, ints) }

two_more : (f : ℕ → ℤ) (n : ℕ) (a b c s r : ℤ) → Summed f n a s → c ≡ f (suc n) → b ≡ f (suc (suc n)) → r ≡ s +ℤ c +ℤ b → Summed f (suc (suc n)) b r
two_more f n a b c s r w d e h = record { term_is = e; total_is = h ∙ ap₂ (λ x y. x +ℤ y) (ap₂ (λ x y. x +ℤ y) w.total_is d) e }

pub sine-two : (t z : ℤ) (n i j : ℕ) (a b s r : ℤ) → Summed (sine_term t z) n a s → i ≡ (2 * n + 2) * (2 * n + 3) → j ≡ (2 * suc n + 2) * (2 * suc n + 3)
    → b ≡ next_term (next_term a z i) z j → r ≡ s +ℤ next_term a z i +ℤ b → Summed (sine_term t z) (suc (suc n)) b r
unfolding sine_term
sine-two t z n i j a b s r w d e h k =
    let v : next_term a z i ≡ sine_term t z (suc n) = ap₂ (λ x m. next_term x z m) w.term_is d in
    two_more (sine_term t z) n a b (next_term a z i) s r w v (h ∙ ap₂ (λ x m. next_term x z m) v e) k

pub cosine-two : (z : ℤ) (n i j : ℕ) (a b s r : ℤ) → Summed (cosine_term z) n a s → i ≡ (2 * n + 1) * (2 * n + 2) → j ≡ (2 * suc n + 1) * (2 * suc n + 2)
    → b ≡ next_term (next_term a z i) z j → r ≡ s +ℤ next_term a z i +ℤ b → Summed (cosine_term z) (suc (suc n)) b r
unfolding cosine_term
cosine-two z n i j a b s r w d e h k =
    let v : next_term a z i ≡ cosine_term z (suc n) = ap₂ (λ x m. next_term x z m) w.term_is d in
    two_more (cosine_term z) n a b (next_term a z i) s r w v (h ∙ ap₂ (λ x m. next_term x z m) v e) k

pub sine-whole : (t z a s : ℤ) → z ≡ square t → Summed (sine_term t z) 8 a s → s ≡ sine_sum t
unfolding sine_sum
sine-whole t z a s d w = w.total_is ∙ ap (λ x. sum_to 9 (sine_term t x)) d

pub cosine-whole : (t z a s : ℤ) → z ≡ square t → Summed (cosine_term z) 8 a s → s ≡ cosine_sum t
unfolding cosine_sum
cosine-whole t z a s d w = w.total_is ∙ ap (λ x. sum_to 9 (cosine_term x)) d

-- ---- quarter turns
pub quarters-unique : (x k : ℤ) → 2 * unsigned_abs (fine x -ℤ k *ℤ quarter_turn) < unsigned_abs quarter_turn → k ≡ quarters x
quarters-unique x k h = nearest-unique (fine x) quarter_turn k (omega (arith, ints)) (record { close = omega (arith, h); tie = λ e. absurd (omega (arith, h, e)) })

-- ---- an angle with the other sign
quarters-neg : (x : ℤ) → quarters (neg_ℤ x) ≡ neg_ℤ (quarters x)
quarters-neg x = ap (λ a. nearest a quarter_turn) (neg_ℤ-*ℤ x (pos (2 ^ 29))) ∙ nearest-neg (fine x) quarter_turn

left_of_neg : (a k h : ℤ) → neg_ℤ a -ℤ neg_ℤ k *ℤ h ≡ neg_ℤ (a -ℤ k *ℤ h)
left_of_neg a k h = omega (arith, ints, neg_ℤ-*ℤ k h)

rest-neg : (x : ℤ) → rest (neg_ℤ x) ≡ neg_ℤ (rest x)
rest-neg x =
    ap₂ (λ a k. nearest (a -ℤ k *ℤ quarter_turn) (pos 2)) (neg_ℤ-*ℤ x (pos (2 ^ 29))) (quarters-neg x)
    ∙ ap (λ a. nearest a (pos 2)) (left_of_neg (fine x) (quarters x) quarter_turn)
    ∙ nearest-neg (fine x -ℤ quarters x *ℤ quarter_turn) (pos 2)

square-neg : (t : ℤ) → square (neg_ℤ t) ≡ square t
square-neg t = ap (λ a. nearest a (pos (2 ^ 60))) (same t)
  where
    same : (t : ℤ) → neg_ℤ t *ℤ neg_ℤ t ≡ t *ℤ t
    same t = neg_ℤ-*ℤ t (neg_ℤ t) ∙ ap neg_ℤ (*ℤ-neg_ℤ t t) ∙ omega (arith, ints)

pub next_term-neg : (a z : ℤ) (m : ℕ) → next_term (neg_ℤ a) z m ≡ neg_ℤ (next_term a z m)
next_term-neg a z m = ap (λ x. neg_ℤ (nearest x (pos (m * 2 ^ 60)))) (neg_ℤ-*ℤ a z) ∙ ap neg_ℤ (nearest-neg (a *ℤ z) (pos (m * 2 ^ 60)))

-- two terms on, by sizes
pub next_term-twice : (x y b z : ℤ) (m k : ℕ) → neg_ℤ y ≡ next_term x z m → neg_ℤ b ≡ next_term y z k → b ≡ next_term (next_term x z m) z k
next_term-twice x y b z m k e d = neg_neg b ∙ ap neg_ℤ d ∙ sym (next_term-neg y z k) ∙ ap (λ u. next_term u z k) e
  where
    neg_neg : (a : ℤ) → a ≡ neg_ℤ (neg_ℤ a)
    neg_neg a = omega (arith, ints)

sine_term-neg : (t z : ℤ) (n : ℕ) → sine_term (neg_ℤ t) z n ≡ neg_ℤ (sine_term t z n)
unfolding sine_term
sine_term-neg t z zero = refl
sine_term-neg t z (suc n) =
    ap (λ a. next_term a z ((2 * n + 2) * (2 * n + 3))) (sine_term-neg t z n) ∙ next_term-neg (sine_term t z n) z ((2 * n + 2) * (2 * n + 3))

sine_terms-neg : (t z y : ℤ) (n : ℕ) → y ≡ z → sum_to n (sine_term (neg_ℤ t) y) ≡ neg_ℤ (sum_to n (sine_term t z))
sine_terms-neg t z y n e =
    ap (λ x. sum_to n (sine_term (neg_ℤ t) x)) e ∙ sum_to-ext n (sine_term (neg_ℤ t) z) (λ k. neg_ℤ (sine_term t z k)) (λ k p. sine_term-neg t z k) ∙ sum_to-neg n (sine_term t z)

pub rest_sine-neg : (t : ℤ) → rest_sine (neg_ℤ t) ≡ neg_ℤ (rest_sine t)
unfolding sine_sum
rest_sine-neg t = ap (λ a. nearest a (pos (2 ^ 28))) (sine_terms-neg t (square t) (square (neg_ℤ t)) 9 (square-neg t)) ∙ nearest-neg (sine_sum t) (pos (2 ^ 28))

pub rest_cosine-neg : (t : ℤ) → rest_cosine (neg_ℤ t) ≡ rest_cosine t
unfolding cosine_sum
rest_cosine-neg t = ap (λ z. nearest (sum_to 9 (cosine_term z)) (pos (2 ^ 28))) (square-neg t)

-- of an angle that is negative, from its size
pub rest_sine-below : (t s : ℤ) (u : ℕ) → t <ℤ pos 0 → u ≡ unsigned_abs t → s ≡ rest_sine (pos u) → neg_ℤ s ≡ rest_sine t
rest_sine-below (pos a) s u h e d = absurd (omega (arith, ints))
rest_sine-below (negsuc a) s u h e d = ap neg_ℤ (d ∙ ap (λ x. rest_sine (pos x)) e) ∙ sym (rest_sine-neg (pos (suc a)))

pub rest_cosine-below : (t c : ℤ) (u : ℕ) → t <ℤ pos 0 → u ≡ unsigned_abs t → c ≡ rest_cosine (pos u) → c ≡ rest_cosine t
rest_cosine-below (pos a) c u h e d = absurd (omega (arith, ints))
rest_cosine-below (negsuc a) c u h e d = d ∙ ap (λ x. rest_cosine (pos x)) e ∙ sym (rest_cosine-neg (pos (suc a)))

-- ---- quadrants
quadrant-below : (k : ℤ) → quadrant k < 4
quadrant-below (pos a) = omega arith
quadrant-below (negsuc a) = omega arith

quadrant-neg : (k : ℤ) → quadrant (neg_ℤ k) ≡ (4 - quadrant k) % 4
quadrant-neg (pos zero) = refl
quadrant-neg (pos (suc a)) = omega arith
quadrant-neg (negsuc a) = omega arith

quadrant-next : (k : ℤ) → quadrant (k +ℤ pos 1) ≡ (quadrant k + 1) % 4
quadrant-next (pos a) = omega arith
quadrant-next (negsuc zero) = refl
quadrant-next (negsuc (suc a)) = let e : negsuc (suc a) +ℤ pos 1 ≡ negsuc a = omega (arith, ints) in rw e (omega arith)

-- what holds of 0, 1, 2 and 3 holds of each number below 4
below_four : (P : ℕ → Type 0) → P 0 → P 1 → P 2 → P 3 → (q : ℕ) → q < 4 → P q
below_four P a b c d zero h = a
below_four P a b c d (suc zero) h = b
below_four P a b c d (suc (suc zero)) h = c
below_four P a b c d (suc (suc (suc zero))) h = d
below_four P a b c d (suc (suc (suc (suc q)))) h = absurd (omega arith)

neg_neg : (a : ℤ) → a ≡ neg_ℤ (neg_ℤ a)
neg_neg a = omega (arith, ints)

quadrant_sine-neg : (s c : ℤ) (q : ℕ) → q < 4 → quadrant_sine ((4 - q) % 4) (neg_ℤ s) c ≡ neg_ℤ (quadrant_sine q s c)
quadrant_sine-neg s c q h = below_four (λ q. quadrant_sine ((4 - q) % 4) (neg_ℤ s) c ≡ neg_ℤ (quadrant_sine q s c)) refl refl refl (neg_neg c) q h

quadrant_cosine-neg : (s c : ℤ) (q : ℕ) → q < 4 → quadrant_cosine ((4 - q) % 4) (neg_ℤ s) c ≡ quadrant_cosine q s c
quadrant_cosine-neg s c q h = below_four (λ q. quadrant_cosine ((4 - q) % 4) (neg_ℤ s) c ≡ quadrant_cosine q s c) refl refl refl (sym (neg_neg s)) q h

quadrant_sine-next : (s c : ℤ) (q : ℕ) → q < 4 → quadrant_sine ((q + 1) % 4) s c ≡ quadrant_cosine q s c
quadrant_sine-next s c q h = below_four (λ q. quadrant_sine ((q + 1) % 4) s c ≡ quadrant_cosine q s c) refl refl refl refl q h

quadrant_cosine-next : (s c : ℤ) (q : ℕ) → q < 4 → quadrant_cosine ((q + 1) % 4) s c ≡ neg_ℤ (quadrant_sine q s c)
quadrant_cosine-next s c q h = below_four (λ q. quadrant_cosine ((q + 1) % 4) s c ≡ neg_ℤ (quadrant_sine q s c)) refl refl (neg_neg s) (neg_neg c) q h

quadrant_sine-size : (s c : ℤ) (n q : ℕ) → unsigned_abs s ≤ n → unsigned_abs c ≤ n → q < 4 → unsigned_abs (quadrant_sine q s c) ≤ n
quadrant_sine-size s c n q h k = below_four (λ q. unsigned_abs (quadrant_sine q s c) ≤ n) h k (rw abs-neg h) (rw abs-neg k) q

quadrant_cosine-size : (s c : ℤ) (n q : ℕ) → unsigned_abs s ≤ n → unsigned_abs c ≤ n → q < 4 → unsigned_abs (quadrant_cosine q s c) ≤ n
quadrant_cosine-size s c n q h k = below_four (λ q. unsigned_abs (quadrant_cosine q s c) ≤ n) k (rw abs-neg h) (rw abs-neg k) h q

-- ---- the laws
-- at most an eighth of a turn is left of any angle, so neither number passes 1
half_left : (a k : ℤ) → unsigned_abs (a -ℤ k *ℤ quarter_turn) ≤ 13 * 2 ^ 57 → unsigned_abs (nearest (a -ℤ k *ℤ quarter_turn) (pos 2)) ≤ 13 * 2 ^ 56
half_left a k h = nearest-within (a -ℤ k *ℤ quarter_turn) (pos 2) (13 * 2 ^ 56) (omega (arith, h))

pub rest-size : (x : ℤ) → unsigned_abs (rest x) ≤ 13 * 2 ^ 56
rest-size x =
    let near : IsNearest (fine x) quarter_turn (quarters x) = nearest-is_nearest (fine x) quarter_turn (omega (arith, ints)) in
    half_left (fine x) (quarters x) (omega (arith, near.close))

pub sine-size : (x : ℤ) → unsigned_abs (sine x) ≤ 2 ^ 32
unfolding sine
sine-size x = quadrant_sine-size (rest_sine (rest x)) (rest_cosine (rest x)) (2 ^ 32) (quadrant (quarters x)) (rest_sine-size (rest x) (rest-size x)) (rest_cosine-size (rest x) (rest-size x)) (quadrant-below (quarters x))

pub cosine-size : (x : ℤ) → unsigned_abs (cosine x) ≤ 2 ^ 32
unfolding cosine
cosine-size x = quadrant_cosine-size (rest_sine (rest x)) (rest_cosine (rest x)) (2 ^ 32) (quadrant (quarters x)) (rest_sine-size (rest x) (rest-size x)) (rest_cosine-size (rest x) (rest-size x)) (quadrant-below (quarters x))

-- one quarter turn more
pub sine_at-next : (k t : ℤ) → sine_at (k +ℤ pos 1) t ≡ cosine_at k t
sine_at-next k t = ap (λ q. quadrant_sine q (rest_sine t) (rest_cosine t)) (quadrant-next k) ∙ quadrant_sine-next (rest_sine t) (rest_cosine t) (quadrant k) (quadrant-below k)

pub cosine_at-next : (k t : ℤ) → cosine_at (k +ℤ pos 1) t ≡ neg_ℤ (sine_at k t)
cosine_at-next k t = ap (λ q. quadrant_cosine q (rest_sine t) (rest_cosine t)) (quadrant-next k) ∙ quadrant_cosine-next (rest_sine t) (rest_cosine t) (quadrant k) (quadrant-below k)

sine_at-neg : (k t : ℤ) → sine_at (neg_ℤ k) (neg_ℤ t) ≡ neg_ℤ (sine_at k t)
sine_at-neg k t = rw (quadrant-neg k, rest_sine-neg t, rest_cosine-neg t) (quadrant_sine-neg (rest_sine t) (rest_cosine t) (quadrant k) (quadrant-below k))

cosine_at-neg : (k t : ℤ) → cosine_at (neg_ℤ k) (neg_ℤ t) ≡ cosine_at k t
cosine_at-neg k t = rw (quadrant-neg k, rest_sine-neg t, rest_cosine-neg t) (quadrant_cosine-neg (rest_sine t) (rest_cosine t) (quadrant k) (quadrant-below k))

-- the sine is odd, and the cosine even
pub sine-neg : (x : ℤ) → sine (neg_ℤ x) ≡ neg_ℤ (sine x)
unfolding sine
sine-neg x = ap₂ (λ k t. sine_at k t) (quarters-neg x) (rest-neg x) ∙ sine_at-neg (quarters x) (rest x)

pub cosine-neg : (x : ℤ) → cosine (neg_ℤ x) ≡ cosine x
unfolding cosine
cosine-neg x = ap₂ (λ k t. cosine_at k t) (quarters-neg x) (rest-neg x) ∙ cosine_at-neg (quarters x) (rest x)

pub ruleset sine_laws = (sine-neg, cosine-neg, sine-size, cosine-size, sine_at-next, cosine_at-next)
