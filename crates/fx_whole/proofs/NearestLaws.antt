-- The laws of `nearest`.
use Rattle.std.proofs.Common.{◌≡◌, ℕ, zero, suc, ◌+◌, ◌-◌, ◌*◌, ◌/◌, ◌%◌, ◌<◌, ◌≤◌, ℤ, pos, negsuc, ◌+ℤ◌, ◌-ℤ◌, ◌*ℤ◌, neg_ℤ, ◌<ℤ◌, ◌≤ℤ◌, unsigned_abs, refl, sym, ap, subst, arith, div-add-mod', mod-lt, lt_of_mul-lt-mul_right, mul-le-mul_right}
use Rattle.std.proofs.lemmas.Int.{ints, by_lt_z}
use Rattle.fx_whole.specs.Nearest.{with_sign, nearest, IsNearest}
use Rattle.fx_whole.proofs.Ring.{mul_step, neg_ℤ-*ℤ}

-- ---- the formula
-- where the divisor is positive
pub nearest-at : (n d : ℤ) → pos 0 <ℤ d → nearest n d ≡ with_sign n ((2 * unsigned_abs n + (unsigned_abs d - 1)) / (2 * unsigned_abs d))
unfolding nearest
nearest-at n (pos zero) h = absurd (omega (arith, ints))
nearest-at n (pos (suc e)) h = ap (λ k. with_sign n ((2 * unsigned_abs n + k) / (2 * suc e))) (omega arith)
nearest-at n (negsuc e) h = absurd (omega (arith, ints))

-- and where it is not
pub nearest-none : (n d : ℤ) → d ≤ℤ pos 0 → nearest n d ≡ pos 0
unfolding nearest
nearest-none n (pos zero) h = refl
nearest-none n (pos (suc e)) h = absurd (omega (arith, ints))
nearest-none n (negsuc e) h = refl

-- ---- the sizes
pub with_sign-size : (n : ℤ) (q : ℕ) → unsigned_abs (with_sign n q) ≡ q
with_sign-size (pos n) q = refl
with_sign-size (negsuc n) q = omega (arith, ints)

-- q is n / d, rounded
record Rounds (n d q : ℕ) : Type 0 where
  past : 2 * (q * d) < 2 * n + d
  short : 2 * n ≤ 2 * (q * d) + d

rounds : (n d q : ℕ) → 0 < d → q ≡ (2 * n + (d - 1)) / (2 * d) → Rounds n d q
rounds n d q h e =
    let whole : q * (2 * d) + (2 * n + (d - 1)) % (2 * d) ≡ 2 * n + (d - 1) = subst (λ (x : ℕ). x * (2 * d) + (2 * n + (d - 1)) % (2 * d) ≡ 2 * n + (d - 1)) (sym e) (div-add-mod' (2 * n + (d - 1)) (2 * d)) in
    let rest : (2 * n + (d - 1)) % (2 * d) < 2 * d = mod-lt (2 * n + (d - 1)) (omega arith) in
    record { past = omega arith; short = omega arith }

within_limit : (n d q limit : ℕ) → Rounds n d q → n ≤ limit * d → q ≤ limit
within_limit n d q limit r h =
    let below : q * d < (limit + 1) * d = omega (arith, r.past) in
    let p : q < limit + 1 = lt_of_mul-lt-mul_right d below in
    omega arith

within_twice : (n d q limit : ℕ) → Rounds n d q → 2 * n ≤ (2 * limit + 1) * d → q ≤ limit
within_twice n d q limit r h =
    let below : q * d < (limit + 1) * d = omega (arith, r.past) in
    let p : q < limit + 1 = lt_of_mul-lt-mul_right d below in
    omega arith

abbrev pub rounded : ℕ → ℕ → ℕ
rounded n d = (2 * n + (d - 1)) / (2 * d)

rounds-nearest : (n d : ℤ) → pos 0 <ℤ d → (q : ℕ) × Rounds (unsigned_abs n) (unsigned_abs d) q × (nearest n d ≡ with_sign n q)
rounds-nearest n d h =
    (rounded (unsigned_abs n) (unsigned_abs d), rounds (unsigned_abs n) (unsigned_abs d) (rounded (unsigned_abs n) (unsigned_abs d)) (omega (arith, ints)) refl, nearest-at n d h)

-- |n| <= limit |d| passes on to the quotient
pub nearest-within : (n d : ℤ) (limit : ℕ) → unsigned_abs n ≤ limit * unsigned_abs d → unsigned_abs (nearest n d) ≤ limit
nearest-within n d limit h =
    by_lt_z (pos 0) d
    (λ p. let r = rounds-nearest n d p in
    rw (r.2, with_sign-size) (within_limit (unsigned_abs n) (unsigned_abs d) r.0 limit r.1 h))
    (λ p. rw (nearest-none n d p) (omega arith))

-- the same as an equivalence: |n / d| is at most limit + 1/2, a tie there being rounded down
pub nearest-within_twice : (n d : ℤ) (limit : ℕ) → 2 * unsigned_abs n ≤ (2 * limit + 1) * unsigned_abs d → unsigned_abs (nearest n d) ≤ limit
nearest-within_twice n d limit h =
    by_lt_z (pos 0) d
    (λ p. let r = rounds-nearest n d p in rw (r.2, with_sign-size) (within_twice (unsigned_abs n) (unsigned_abs d) r.0 limit r.1 h))
    (λ p. rw (nearest-none n d p) (omega arith))

pub nearest-twice_within : (n d : ℤ) (limit : ℕ) → pos 0 <ℤ d → unsigned_abs (nearest n d) ≤ limit → 2 * unsigned_abs n ≤ (2 * limit + 1) * unsigned_abs d
nearest-twice_within n d limit p h =
    let r = rounds-nearest n d p in
    let q : r.0 ≤ limit = rw (r.2, with_sign-size) at h in
    omega (arith, r.1.short, mul-le-mul_right (unsigned_abs d) q)

pub nearest-size : (n d : ℤ) → unsigned_abs (nearest n d) ≤ unsigned_abs n
nearest-size n d =
    by_lt_z (pos 0) d
    (λ p. nearest-within n d (unsigned_abs n) (grown (unsigned_abs n) (unsigned_abs d) (omega (arith, ints))))
    (λ p. rw (nearest-none n d p) (omega arith))
  where
    grown : (a k : ℕ) → 0 < k → a ≤ a * k
    grown a zero h = absurd (omega arith)
    grown a (suc k) h = omega arith

pub nearest-size_product : (n d : ℤ) → pos 0 <ℤ d → 2 * (unsigned_abs (nearest n d) * unsigned_abs d) < 2 * unsigned_abs n + unsigned_abs d
nearest-size_product n d h = let r = rounds-nearest n d h in rw (r.2, with_sign-size) r.1.past

-- ---- the property
near_size : (n d : ℤ) (q : ℕ) → pos 0 <ℤ d → Rounds (unsigned_abs n) (unsigned_abs d) q → IsNearest n d (with_sign n q)
near_size n (pos zero) q h r = absurd (omega (arith, ints))
near_size n (negsuc e) q h r = absurd (omega (arith, ints))
near_size (pos a) (pos (suc e)) q h r = record { close = omega (arith, ints, r.past, r.short); tie = λ t. omega (arith, ints, r.past, r.short) }
near_size (negsuc a) (pos (suc e)) q h r =
    record {
      close = omega (arith, ints, r.past, r.short, neg_ℤ-*ℤ (pos q) (pos (suc e)));
      tie = λ t. omega (arith, ints, r.past, r.short, neg_ℤ-*ℤ (pos q) (pos (suc e)));
    }

pub nearest-is_nearest : (n d : ℤ) → pos 0 <ℤ d → IsNearest n d (nearest n d)
nearest-is_nearest n d h =
    let r = rounds-nearest n d h in
    subst (λ (m : ℤ). IsNearest n d m) (sym r.2) (near_size n d r.0 h r.1)

-- two products a divisor apart can't both be near numbers that are in order the other way
apart : (n k x y d : ℤ) → pos 0 <ℤ d → n ≤ℤ k → (y +ℤ d) ≤ℤ x
    → 2 * unsigned_abs (n -ℤ x) ≤ unsigned_abs d → (2 * unsigned_abs (n -ℤ x) ≡ unsigned_abs d → unsigned_abs x ≤ unsigned_abs n)
    → 2 * unsigned_abs (k -ℤ y) ≤ unsigned_abs d → (2 * unsigned_abs (k -ℤ y) ≡ unsigned_abs d → unsigned_abs y ≤ unsigned_abs k) → ⊥
apart n k x y d h l a c t c' t' =
    let s : unsigned_abs x ≤ unsigned_abs n = t (omega (arith, ints)) in
    let s' : unsigned_abs y ≤ unsigned_abs k = t' (omega (arith, ints)) in
    omega (arith, ints)

in_order : (n k d m p : ℤ) → pos 0 <ℤ d → n ≤ℤ k → IsNearest n d m → IsNearest k d p → m ≤ℤ p
in_order n k d m p h l near near' =
    by_lt_z p m
    (λ lt. absurd (apart n k (m *ℤ d) (p *ℤ d) d h l (mul_step p m d h lt) near.close near.tie near'.close near'.tie))
    (λ le. le)

pub nearest-unique : (n d m : ℤ) → pos 0 <ℤ d → IsNearest n d m → m ≡ nearest n d
nearest-unique n d m h near =
    let le : m ≤ℤ nearest n d = in_order n n d m (nearest n d) h (omega (arith, ints)) near (nearest-is_nearest n d h) in
    let ge : nearest n d ≤ℤ m = in_order n n d (nearest n d) m h (omega (arith, ints)) (nearest-is_nearest n d h) near in
    omega (arith, ints)

-- ---- how it behaves
pub nearest-mono : (n k d : ℤ) → n ≤ℤ k → nearest n d ≤ℤ nearest k d
nearest-mono n k d l =
    by_lt_z (pos 0) d
    (λ h. in_order n k d (nearest n d) (nearest k d) h l (nearest-is_nearest n d h) (nearest-is_nearest k d h))
    (λ h. rw (nearest-none n d h, nearest-none k d h) (omega (arith, ints)))

pub nearest-neg : (n d : ℤ) → nearest (neg_ℤ n) d ≡ neg_ℤ (nearest n d)
nearest-neg n d =
    by_lt_z (pos 0) d
    (λ h. sym (nearest-unique (neg_ℤ n) d (neg_ℤ (nearest n d)) h (negated n d (nearest n d) (nearest-is_nearest n d h))))
    (λ h. rw (nearest-none n d h, nearest-none (neg_ℤ n) d h) refl)
  where
    off : (n x : ℤ) → unsigned_abs (neg_ℤ n -ℤ neg_ℤ x) ≡ unsigned_abs (n -ℤ x)
    off n x = omega (arith, ints)

    size : (x : ℤ) → unsigned_abs (neg_ℤ x) ≡ unsigned_abs x
    size x = omega (arith, ints)

    negated : (n d m : ℤ) → IsNearest n d m → IsNearest (neg_ℤ n) d (neg_ℤ m)
    negated n d m near =
        record {
          close = rw (neg_ℤ-*ℤ m d, off n (m *ℤ d)) near.close;
          tie = rw (neg_ℤ-*ℤ m d, off n (m *ℤ d), size (m *ℤ d), size n) near.tie;
        }

pub nearest-multiple : (m d : ℤ) → pos 0 <ℤ d → nearest (m *ℤ d) d ≡ m
nearest-multiple m d h = sym (nearest-unique (m *ℤ d) d m h (record { close = omega (arith, ints); tie = λ t. omega (arith, ints) }))

pub nearest-zero : (d : ℤ) → nearest (pos 0) d ≡ pos 0
nearest-zero d =
    let p : unsigned_abs (nearest (pos 0) d) ≤ 0 = nearest-size (pos 0) d in
    omega (arith, ints)

-- ---- as the code has it: from the sizes a of n and b of d
pub nearest-from_sizes : (n d m : ℤ) (a b q : ℕ) → pos 0 <ℤ d → a ≡ unsigned_abs n → b ≡ unsigned_abs d → q ≡ (2 * a + (b - 1)) / (2 * b) → m ≡ with_sign n q → m ≡ nearest n d
nearest-from_sizes n d m a b q h e f g s = cc (nearest-at n d h)
