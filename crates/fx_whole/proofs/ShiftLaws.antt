-- Rounding by a shift: half of the divisor is added, less one where the number isn't negative.
use Rattle.std.proofs.Common.{◌≡◌, ◌↔◌, ℕ, ◌+◌, ◌-◌, ◌*◌, ◌^◌, ◌≤◌, ◌<◌, ℤ, pos, ◌+ℤ◌, ◌-ℤ◌, ◌*ℤ◌, ◌<ℤ◌, ◌≤ℤ◌, unsigned_abs, arith, pow_pos, pow_mono, mul-le-mul, ap, sym, subst, ◌∙◌}
use Rattle.std.proofs.lemmas.Int.{ints, by_lt_z}
use Rattle.fx_whole.specs.Nearest.{nearest, IsNearest}
use Rattle.fx_whole.proofs.NearestLaws.{nearest-is_nearest, nearest-unique, nearest-within_twice, nearest-twice_within}
use Rattle.fx_whole.proofs.Ring.{mul_mono, mul_step}
use Rattle.fx_whole.proofs.Powers.{pow-split, pow_positive}
use lib.IntN.{zero-*ℤ}

-- ---- one sum and one shift
-- a multiple x of 2 h is 0, or at least 2 h away from it
near_multiple : (n x : ℤ) (h : ℕ) → 0 < h
    → (pos 0 ≤ℤ n → x ≤ℤ ((n +ℤ pos h) -ℤ pos 1)) → (pos 0 ≤ℤ n → ((n +ℤ pos h) -ℤ pos 1) <ℤ (x +ℤ pos (2 * h)))
    → (n <ℤ pos 0 → x ≤ℤ (n +ℤ pos h)) → (n <ℤ pos 0 → (n +ℤ pos h) <ℤ (x +ℤ pos (2 * h)))
    → (x <ℤ pos 0 → x ≤ℤ (pos 0 -ℤ pos (2 * h))) → (pos 0 <ℤ x → pos (2 * h) ≤ℤ x)
    → (2 * unsigned_abs (n -ℤ x) ≤ 2 * h) × (2 * unsigned_abs (n -ℤ x) ≡ 2 * h → unsigned_abs x ≤ unsigned_abs n)
near_multiple n x h p a b c d m k =
    by_lt_z n (pos 0)
    (λ l. let e = c l in let f = d l in
    by_lt_z (pos 0) x
    (λ u. absurd (let g = k u in omega (arith, ints)))
    (λ u. (omega (arith, ints), λ t. omega (arith, ints))))
    (λ l. let e = a l in let f = b l in
    by_lt_z x (pos 0)
    (λ u. absurd (let g = m u in omega (arith, ints)))
    (λ u. (omega (arith, ints), λ t. omega (arith, ints))))

below_zero : (m d : ℤ) → pos 0 <ℤ d → (m *ℤ d) <ℤ pos 0 → (m *ℤ d) ≤ℤ (pos 0 -ℤ d)
below_zero m d p h =
    by_lt_z m (pos 0)
    (λ l. let s = mul_step m (pos 0) d p l in omega (arith, ints, zero-*ℤ d))
    (λ l. absurd (let s = mul_mono (pos 0) m d (omega (arith, ints)) l in omega (arith, ints, zero-*ℤ d)))

above_zero : (m d : ℤ) → pos 0 <ℤ d → pos 0 <ℤ (m *ℤ d) → d ≤ℤ (m *ℤ d)
above_zero m d p h =
    by_lt_z (pos 0) m
    (λ l. let s = mul_step (pos 0) m d p l in omega (arith, ints, zero-*ℤ d))
    (λ l. absurd (let s = mul_mono m (pos 0) d (omega (arith, ints)) l in omega (arith, ints, zero-*ℤ d)))

-- the quotient by 2 h of n and half, rounded down, is the nearest to that of n
nearest-by_floor : (n m t : ℤ) (h : ℕ) → 0 < h
    → (n <ℤ pos 0 → t ≡ n +ℤ pos h) → (pos 0 ≤ℤ n → t ≡ (n +ℤ pos h) -ℤ pos 1)
    → (m *ℤ pos (2 * h)) ≤ℤ t → t <ℤ (m *ℤ pos (2 * h) +ℤ pos (2 * h))
    → m ≡ nearest n (pos (2 * h))
nearest-by_floor n m t h p e f a b =
    let d : pos 0 <ℤ pos (2 * h) = omega (arith, ints) in
    let r = near_multiple n (m *ℤ pos (2 * h)) h p
    (λ l. let g = f l in omega (arith, ints)) (λ l. let g = f l in omega (arith, ints))
    (λ l. let g = e l in omega (arith, ints)) (λ l. let g = e l in omega (arith, ints))
    (below_zero m (pos (2 * h)) d) (above_zero m (pos (2 * h)) d) in
    nearest-unique n (pos (2 * h)) m d (record { close = r.0; tie = r.1 })

pub twice_half : (s : ℕ) → 1 ≤ s → 2 ^ s ≡ 2 * 2 ^ (s - 1)
twice_half s h = pow-split 1 s h

pub nearest_by_shift : (n m t : ℤ) (s h : ℕ) → 1 ≤ s → h ≡ 2 ^ (s - 1)
    → (n <ℤ pos 0 → t ≡ n +ℤ pos h) → (pos 0 ≤ℤ n → t ≡ (n +ℤ pos h) -ℤ pos 1)
    → (m *ℤ pos (2 ^ s)) ≤ℤ t → t <ℤ (m *ℤ pos (2 ^ s) +ℤ pos (2 ^ s))
    → m ≡ nearest n (pos (2 ^ s))
nearest_by_shift n m t s h p q e f a b =
    let g : 2 ^ s ≡ 2 * h = twice_half s p ∙ ap (λ (x : ℕ). 2 * x) (sym q) in
    subst (λ (x : ℕ). (m *ℤ pos x) ≤ℤ t → t <ℤ (m *ℤ pos x +ℤ pos x) → m ≡ nearest n (pos x)) (sym g)
    (nearest-by_floor n m t h (subst (λ (x : ℕ). 0 < x) (sym q) (omega (arith, pow_pos (s - 1)))) e f) a b

-- ---- whether the rounded number is within its limit is told by the number itself
pub within_by_size : (n : ℤ) (s limit most : ℕ) → 2 * most ≡ (2 * limit + 1) * 2 ^ s
    → (unsigned_abs n ≤ most) ↔ (unsigned_abs (nearest n (pos (2 ^ s))) ≤ limit)
within_by_size n s limit most e = (
  (λ h. nearest-within_twice n (pos (2 ^ s)) limit (omega arith)),
  (λ h. let t = nearest-twice_within n (pos (2 ^ s)) limit (pow_positive s) h in omega arith),
)

pub greatest_small : (l s t : ℕ) → l < 2 ^ 63 → s ≤ 63 → 2 * t ≡ (2 * l + 1) * 2 ^ s → t < 2 ^ 126
greatest_small l s t a b e = omega (arith, mul-le-mul (doubled l a) (pow_mono b))
  where
    doubled : (l : ℕ) → l < 2 ^ 63 → 2 * l + 1 ≤ 2 ^ 64 - 1
    doubled l h = omega arith

-- ---- sizes of the multiple, and of what is left
pub scaled_bound : (a s : ℕ) → a ≤ 2 ^ 63 → s ≤ 63 → a * 2 ^ s ≤ 2 ^ 126
scaled_bound a s h k = omega (arith, mul-le-mul h (pow_mono k))

pub rest_small : (n m : ℤ) (s : ℕ) → s ≤ 63 → m ≡ nearest n (pos (2 ^ s)) → unsigned_abs (n -ℤ m *ℤ pos (2 ^ s)) < 2 ^ 63
rest_small n m s h e =
    let p : 2 ^ s ≤ 2 ^ 63 = pow_mono h in
    let near : IsNearest n (pos (2 ^ s)) (nearest n (pos (2 ^ s))) = nearest-is_nearest n (pos (2 ^ s)) (pow_positive s) in
    rw e (omega (arith, near.close))
