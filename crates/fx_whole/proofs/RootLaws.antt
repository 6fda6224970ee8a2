-- The laws of `isqrt`.
use Rattle.std.proofs.Common.{◌≡◌, ℕ, zero, suc, ◌+◌, ◌*◌, ◌<◌, ◌≤◌, Bool, true, false, cond, nat_le, ℤ, pos, negsuc, ◌*ℤ◌, ◌<ℤ◌, ◌≤ℤ◌, refl, sym, subst, arith, leb-true, leb-false, mul-le-mul, inl, inr}
use Rattle.std.proofs.lemmas.Bool.{cases_lt}
use Rattle.std.proofs.lemmas.Int.{ints, by_lt_z}
use lib.IntN.{*ℤ_comm}
use Rattle.fx_whole.proofs.Ring.{square_nonneg, mul_mono}
use Rattle.fx_whole.specs.Roots.{greatest_root, isqrt, IsRoot}

-- ---- the search
pub greatest_root-square : (n b : ℕ) → greatest_root n b * greatest_root n b ≤ n
greatest_root-square n zero = omega arith
greatest_root-square n (suc b) = pick (nat_le (suc b * suc b) n) (greatest_root n b) refl (greatest_root-square n b)
  where
    pick : (t : Bool) (r : ℕ) → nat_le (suc b * suc b) n ≡ t → r * r ≤ n → cond t (suc b) r * cond t (suc b) r ≤ n
    pick true r e h = leb-true (suc b * suc b) n e
    pick false r e h = h

pub greatest_root-greatest : (n b s : ℕ) → s ≤ b → s * s ≤ n → s ≤ greatest_root n b
greatest_root-greatest n zero s h k = h
greatest_root-greatest n (suc b) s h k = pick (nat_le (suc b * suc b) n) (greatest_root n b) refl (λ l. greatest_root-greatest n b s l k)
  where
    past : n < suc b * suc b → s ≡ suc b → ⊥
    past e f = let g : suc b * suc b ≤ n = subst (λ (x : ℕ). x * x ≤ n) f k in omega arith

    pick : (t : Bool) (r : ℕ) → nat_le (suc b * suc b) n ≡ t → (s ≤ b → s ≤ r) → s ≤ cond t (suc b) r
    pick true r e f = h
    pick false r e f = let g : s ≡ suc b → ⊥ = past (leb-false (suc b * suc b) n e) in f (omega arith)

square_le : (s t : ℕ) → s ≤ t → s * s ≤ t * t
square_le s t h = mul-le-mul h h

root_order : (n s t : ℕ) → s * s ≤ n → n < (t + 1) * (t + 1) → s ≤ t
root_order n s t h k = elim (cases_lt t s) [ inl p ↦ absurd (omega (arith, square_le (t + 1) s (omega arith))) | inr p ↦ p ]

-- ---- the root
pub isqrt-root : (n : ℤ) → pos 0 ≤ℤ n → IsRoot n (isqrt n)
unfolding isqrt
isqrt-root (negsuc n) h = absurd (omega (arith, ints))
isqrt-root (pos n) h =
    record {
      not_negative = omega (arith, ints);
      below = omega (arith, ints, greatest_root-square n n);
      above = omega (arith, ints, next);
    }
  where
    next : n < (greatest_root n n + 1) * (greatest_root n n + 1)
    next = elim (cases_lt n ((greatest_root n n + 1) * (greatest_root n n + 1)))
        [ inl p ↦ p | inr p ↦ absurd (omega (arith, greatest_root-greatest n n (greatest_root n n + 1) (omega arith) p)) ]

in_order : (n k s t : ℤ) → n ≤ℤ k → IsRoot n s → IsRoot k t → s ≤ℤ t
in_order n k (negsuc s) t l h g = absurd (omega (arith, ints, h.not_negative))
in_order n k (pos s) (negsuc t) l h g = absurd (omega (arith, ints, g.not_negative))
in_order (negsuc n) k (pos s) (pos t) l h g = absurd (omega (arith, ints, h.below))
in_order (pos n) (negsuc k) (pos s) (pos t) l h g = absurd (omega (arith, ints))
in_order (pos n) (pos k) (pos s) (pos t) l h g =
    let le : s ≤ t = root_order n s t (omega (arith, ints, h.below)) (omega (arith, ints, g.above)) in
    omega (arith, ints)

pub isqrt-unique : (n s : ℤ) → IsRoot n s → s ≡ isqrt n
isqrt-unique n s h =
    let root = isqrt-root n (by_le n s h) in
    let le : s ≤ℤ isqrt n = in_order n n s (isqrt n) (omega (arith, ints)) h root in
    let ge : isqrt n ≤ℤ s = in_order n n (isqrt n) s (omega (arith, ints)) root h in
    omega (arith, ints)
  where
    by_le : (n s : ℤ) → IsRoot n s → pos 0 ≤ℤ n
    by_le n s h = let q : pos 0 ≤ℤ (s *ℤ s) = square_nonneg s in omega (arith, ints, h.below)

-- ---- how it behaves
pub isqrt-square : (s : ℤ) → pos 0 ≤ℤ s → isqrt (s *ℤ s) ≡ s
isqrt-square (negsuc s) h = absurd (omega (arith, ints))
isqrt-square (pos s) h = sym (isqrt-unique (pos (s * s)) (pos s) (record { not_negative = h; below = omega (arith, ints); above = omega (arith, ints) }))

pub isqrt-nonneg : (n : ℤ) → pos 0 ≤ℤ isqrt n
unfolding isqrt
isqrt-nonneg (pos n) = omega (arith, ints)
isqrt-nonneg (negsuc n) = omega (arith, ints)

pub isqrt-negative : (n : ℤ) → n <ℤ pos 0 → isqrt n ≡ pos 0
unfolding isqrt
isqrt-negative (pos n) h = absurd (omega (arith, ints))
isqrt-negative (negsuc n) h = refl

pub isqrt-mono : (n k : ℤ) → n ≤ℤ k → isqrt n ≤ℤ isqrt k
isqrt-mono n k h =
    by_lt_z n (pos 0)
    (λ p. rw (isqrt-negative n p) (isqrt-nonneg k))
    (λ p. in_order n k (isqrt n) (isqrt k) h (isqrt-root n p) (isqrt-root k (omega (arith, ints))))

-- a root is below every positive number whose square is above n
pub isqrt-below : (n s : ℤ) → pos 0 <ℤ s → n <ℤ (s *ℤ s) → isqrt n <ℤ s
isqrt-below n s h k =
    by_lt_z (isqrt n) s
    (λ p. p)
    (λ p. by_lt_z n (pos 0)
    (λ q. rw (isqrt-negative n q) h)
    (λ q. absurd (crossed (isqrt n) s n h p (isqrt-root n q).below k)))
  where
    crossed : (r s n : ℤ) → pos 0 <ℤ s → s ≤ℤ r → (r *ℤ r) ≤ℤ n → n <ℤ (s *ℤ s) → ⊥
    crossed r s n h l b k =
        let p : (s *ℤ s) ≤ℤ (r *ℤ s) = mul_mono s r s (omega (arith, ints)) l in
        let q : (s *ℤ r) ≤ℤ (r *ℤ r) = mul_mono s r r (omega (arith, ints)) l in
        omega (arith, ints, *ℤ_comm r s)
