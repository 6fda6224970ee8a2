-- Shares of 1 and what is made of them stay in their bounds.
use Rattle.std.proofs.Common.{mul-le-mul_right, ◌≡◌, ◌≤◌, ◌<◌, ◌+◌, ◌*◌, ◌^◌, ◌∙◌, ℕ, zero, suc, ℤ, pos, ◌+ℤ◌, ◌-ℤ◌, ◌*ℤ◌, neg_ℤ, ◌<ℤ◌, ◌≤ℤ◌, unsigned_abs, subst, refl, sym, ap, arith}
use Rattle.std.proofs.lemmas.Int.{ints, clamps, by_lt_z, unsigned_abs-mul}
use Rattle.fx_whole.specs.Nearest.{nearest}
use Rattle.fx_whole.proofs.NearestLaws.{nearest-zero, nearest-mono, nearest-multiple, nearest-neg, nearest-within}
use Rattle.fx_whole.proofs.Ring.{mul_mono, mul_nonneg, *ℤ-neg_ℤ}
use native.Mathlib.Numerals.{unary_clauses}
use lib.IntN.{*ℤ_comm}
use Rattle.mj_imp.specs.Impedance.{one, over, times, pw, LiesBetween}

nearest_between : (n d m : ℤ) → pos 0 <ℤ d → pos 0 ≤ℤ n → n ≤ℤ (m *ℤ d) → (pos 0 ≤ℤ nearest n d) × (nearest n d ≤ℤ m)
nearest_between n d m positive low high = (
  subst (λ z. z ≤ℤ nearest n d) (nearest-zero d) (nearest-mono (pos 0) n d low),
  subst (λ z. nearest n d ≤ℤ z) (nearest-multiple m d positive) (nearest-mono n (m *ℤ d) d high),
)

-- a / b, for a from 0 to b
pub over_between : (a b : ℤ) → pos 0 <ℤ b → pos 0 ≤ℤ a → a ≤ℤ b → (pos 0 ≤ℤ over a b) × (over a b ≤ℤ one)
over_between a b positive low high =
    nearest_between (a *ℤ one) b one positive (mul_nonneg a one low (omega (arith, ints)))
    (subst (λ z. (a *ℤ one) ≤ℤ z) (*ℤ_comm b one) (mul_mono a b one (omega (arith, ints)) high))

-- a / b, for any size of a
pub over_nonneg : (a b : ℤ) → pos 0 <ℤ b → pos 0 ≤ℤ a → pos 0 ≤ℤ over a b
over_nonneg a b positive low = subst (λ z. z ≤ℤ over a b) (nearest-zero b) (nearest-mono (pos 0) (a *ℤ one) b (mul_nonneg a one low (omega (arith, ints))))

-- a q, for a from 0 up and q from 0 to 1
pub times_between : (a q : ℤ) → pos 0 ≤ℤ a → pos 0 ≤ℤ q → q ≤ℤ one → (pos 0 ≤ℤ times a q) × (times a q ≤ℤ a)
times_between a q some low high =
    nearest_between (a *ℤ q) one a (omega (arith, ints)) (mul_nonneg a q some low)
    (subst (λ z. z ≤ℤ (a *ℤ one)) (*ℤ_comm q a) (subst (λ z. (q *ℤ a) ≤ℤ z) (*ℤ_comm one a) (mul_mono q one a some high)))

-- the step from a to b, or a share of it
step_up : (a b y : ℤ) → pos 0 ≤ℤ y → y ≤ℤ one → a ≤ℤ b → (a ≤ℤ (a +ℤ times y (b -ℤ a))) × ((a +ℤ times y (b -ℤ a)) ≤ℤ b)
step_up a b y low high up =
    let h = times_between (b -ℤ a) y (omega (arith, ints)) low high in
    rw (*ℤ_comm y (b -ℤ a)) (omega (arith, ints, h.0), omega (arith, ints, h.1))

step_down : (a b y : ℤ) → pos 0 ≤ℤ y → y ≤ℤ one → b ≤ℤ a → (b ≤ℤ (a +ℤ times y (b -ℤ a))) × ((a +ℤ times y (b -ℤ a)) ≤ℤ a)
step_down a b y low high down =
    let h = times_between (a -ℤ b) y (omega (arith, ints)) low high in
    let e : b -ℤ a ≡ neg_ℤ (a -ℤ b) = omega (arith, ints) in
    rw (e, *ℤ-neg_ℤ y (a -ℤ b), nearest-neg (y *ℤ (a -ℤ b)) one, *ℤ_comm y (a -ℤ b)) (omega (arith, ints, h.0), omega (arith, ints, h.1))

pub between_both : (a b y n : ℤ) → pos 0 ≤ℤ y → y ≤ℤ one → n ≡ a +ℤ times y (b -ℤ a) → LiesBetween a b n
between_both a b y n low high e =
    by_lt_z b a
    (λ down. let h = step_down a b y low high (omega (arith, ints)) in record { low = rw e (omega (arith, ints, clamps, h.0, h.1)); high = rw e (omega (arith, ints, clamps, h.0, h.1)) })
    (λ up. let h = step_up a b y low high up in record { low = rw e (omega (arith, ints, clamps, h.0, h.1)); high = rw e (omega (arith, ints, clamps, h.0, h.1)) })

-- and its size
pub step_size : (y d : ℤ) → pos 0 ≤ℤ y → y ≤ℤ one → unsigned_abs (times y d) ≤ unsigned_abs d
step_size y d low high =
    nearest-within (y *ℤ d) one (unsigned_abs d) (rw (unsigned_abs-mul y d) (grown (unsigned_abs y) (unsigned_abs d) (omega (arith, ints))))
  where
    grown : (m k : ℕ) → m ≤ 2 ^ 32 → m * k ≤ k * 2 ^ 32
    grown m k h = let p : m * k ≤ 2 ^ 32 * k = mul-le-mul_right k h in omega (arith, p)

-- a power of one factor, and of one factor more
pub pw_one : (q : ℤ) → pw q 1 ≡ q
unfolding pw
pw_one q = refl

pub pw_more : (q : ℤ) (k : ℕ) → 1 ≤ k → pw q (k + 1) ≡ times (pw q k) q
unfolding pw
pw_more q zero some = absurd (omega arith)
pw_more q (suc k) some = simp unary_clauses refl
