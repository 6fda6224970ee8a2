-- Sums of combinations, and of terms one of which differs. They would stand in fx_whole.
use Rattle.std.proofs.Common.{◌≡◌, ℕ, zero, suc, ◌<◌, ℤ, pos, ◌+ℤ◌, ◌*ℤ◌, ◌≤ℤ◌, arith, inl, inr}
use Rattle.std.proofs.lemmas.Int.{ints}
use Rattle.std.proofs.lemmas.Bool.{cases_eq}
use lib.IntN.{*ℤ-zero}
use Rattle.fx_whole.specs.Sums.{sum_to}
use Rattle.fx_whole.proofs.Ring.{*ℤ_distrib_left}
use Rattle.fx_whole.proofs.SumLaws.{sum_to-nonneg}

-- a sum of two multiples
pub two_sums : (n : ℕ) (f a b : ℕ → ℤ) (x y : ℤ) → ((k : ℕ) → k < n → f k ≡ x *ℤ a k +ℤ y *ℤ b k) → sum_to n f ≡ x *ℤ sum_to n a +ℤ y *ℤ sum_to n b
two_sums zero f a b x y h = omega (arith, ints, *ℤ-zero x, *ℤ-zero y)
two_sums (suc n) f a b x y h =
    omega (
      arith,
      ints,
      two_sums n f a b x y (λ k p. h k (omega arith)),
      h n (omega arith),
      *ℤ_distrib_left x (sum_to n a) (a n),
      *ℤ_distrib_left y (sum_to n b) (b n),
    )

-- and of three
pub three_sums : (n : ℕ) (f a b c : ℕ → ℤ) (x y z : ℤ) → ((k : ℕ) → k < n → f k ≡ x *ℤ a k +ℤ y *ℤ b k +ℤ z *ℤ c k)
    → sum_to n f ≡ x *ℤ sum_to n a +ℤ y *ℤ sum_to n b +ℤ z *ℤ sum_to n c
three_sums zero f a b c x y z h = omega (arith, ints, *ℤ-zero x, *ℤ-zero y, *ℤ-zero z)
three_sums (suc n) f a b c x y z h =
    omega (
      arith,
      ints,
      three_sums n f a b c x y z (λ k p. h k (omega arith)),
      h n (omega arith),
      *ℤ_distrib_left x (sum_to n a) (a n),
      *ℤ_distrib_left y (sum_to n b) (b n),
      *ℤ_distrib_left z (sum_to n c) (c n),
    )

-- no term of a sum of terms that are not negative is above it
pub term_le_sum : (n i : ℕ) (f : ℕ → ℤ) → i < n → ((k : ℕ) → k < n → pos 0 ≤ℤ f k) → f i ≤ℤ sum_to n f
term_le_sum zero i f p h = absurd (omega arith)
term_le_sum (suc n) i f p h =
    elim (cases_eq i n) [
      | inl e ↦ rw e (omega (arith, ints, sum_to-nonneg n f (λ k q. h k (omega arith))))
      | inr e ↦ omega (arith, ints, term_le_sum n i f (omega arith) (λ k q. h k (omega arith)), h n (omega arith))
    ]
