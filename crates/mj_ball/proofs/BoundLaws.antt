-- A good shift is below the diagonal: what a pivot loses isn't negative.
use Rattle.std.proofs.Common.{◌≡◌, ℕ, ◌+◌, ◌^◌, ◌<◌, nat_lt, ℤ, pos, ◌-ℤ◌, ◌*ℤ◌, neg_ℤ, ◌<ℤ◌, ◌≤ℤ◌, Option, Some, None, option_map, ◌==◌, Bool, true, false, refl, sym, ap, arith, eq-eqb}
use Rattle.std.proofs.lemmas.Int.{ints, by_lt_z}
use Rattle.fx_whole.specs.Nearest.{nearest}
use Rattle.fx_whole.specs.Sums.{when}
use Rattle.fx_whole.specs.Tables.{sum_after}
use Rattle.fx_whole.proofs.NearestLaws.{nearest-mono, nearest-zero}
use Rattle.fx_whole.proofs.Ring.{ring, mul_nonneg, mul_mono}
use Rattle.fx_whole.proofs.SumLaws.{sum_to-nonneg, when-true}
use Rattle.mj_factor.specs.Factors.{work, lower, pivot, factor_fault}
use Rattle.mj_factor.proofs.FactorLaws.{work_is}
use Rattle.mj_ball.specs.Shifts.{largest_row, errors_fault, shifted, lower_at, least_part, unless_fault, at_least_one, low_at, ball_from, ball_at}
use Rattle.mj_ball.proofs.ShiftLaws.{no_fault, pivots_least}

when-nonneg : (b : Bool) (x : ℤ) → pos 0 ≤ℤ x → pos 0 ≤ℤ when b x
when-nonneg true x h = h
when-nonneg false x h = omega (arith, ints)

-- a rounded quotient by a positive number has the sign of what is divided
both_low : (a b : ℤ) → a ≤ℤ pos 0 → b ≤ℤ pos 0 → pos 0 ≤ℤ (a *ℤ b)
both_low a b h k = rw (turned a b) (mul_nonneg (neg_ℤ a) (neg_ℤ b) (omega (arith, ints)) (omega (arith, ints)))
  where
    turned : (a b : ℤ) → a *ℤ b ≡ neg_ℤ a *ℤ neg_ℤ b
    turned a b = simp ring (omega (arith, ints))

same_sign : (w s d : ℤ) → pos 0 <ℤ s → pos 0 ≤ℤ (nearest (w *ℤ s) d *ℤ w)
same_sign w s d hs = by_lt_z w (pos 0) negative positive
  where
    scaled_low : w <ℤ pos 0 → (w *ℤ s) ≤ℤ pos 0
    scaled_low h = (let p : (w *ℤ s) ≤ℤ (pos 0 *ℤ s) = mul_mono w (pos 0) s (omega (arith, ints)) (omega (arith, ints)) in omega (arith, ints, p))

    negative : w <ℤ pos 0 → pos 0 ≤ℤ (nearest (w *ℤ s) d *ℤ w)
    negative h = both_low (nearest (w *ℤ s) d) w (rw (nearest-zero d) at (nearest-mono (w *ℤ s) (pos 0) d (scaled_low h))) (omega (arith, ints))

    positive : pos 0 ≤ℤ w → pos 0 ≤ℤ (nearest (w *ℤ s) d *ℤ w)
    positive h = mul_nonneg (nearest (w *ℤ s) d) w (rw (nearest-zero d) at (nearest-mono (pos 0) (w *ℤ s) d (mul_nonneg w s h (omega (arith, ints))))) h

module _ (n : ℕ) (m : ℕ → ℕ → ℤ) where
  abbrev lost : ℕ → ℤ
  lost i = nearest (sum_after i n (λ r. lower n m r i *ℤ work n m r i)) (pos (2 ^ 32))

  lost_nonneg : (i : ℕ) → pos 0 ≤ℤ lost i
  lost_nonneg i =
      rw (nearest-zero (pos (2 ^ 32))) at
      (nearest-mono (pos 0) (sum_after i n (λ r. lower n m r i *ℤ work n m r i)) (pos (2 ^ 32))
      (sum_to-nonneg n (λ r. when (nat_lt i r) (lower n m r i *ℤ work n m r i))
      (λ r p. when-nonneg (nat_lt i r) (lower n m r i *ℤ work n m r i) (same_sign (work n m r i) (pos (2 ^ 32)) (work n m r r) (omega (arith, ints))))))

  pub diagonal_least : factor_fault n m ≡ None → (i : ℕ) → i < n → pos (2 ^ 10) ≤ℤ m i i
  diagonal_least h i p = from_parts (2 ^ 10) (m i i) (lost i) (pivot n m i) (work_is n m i i p) (pivots_least n m h i p) (lost_nonneg i)
    where
      from_parts : (b : ℕ) (x t y : ℤ) → y ≡ x -ℤ t → pos b ≤ℤ y → pos 0 ≤ℤ t → pos b ≤ℤ x
      from_parts b x t y e h k = omega (arith, ints)

-- a good shift leaves 2^10 of each number of the diagonal
good_below : (n : ℕ) (m : ℕ → ℕ → ℤ) (k i low : ℕ) → i < n → low_at n m k ≡ Some low → pos (2 ^ 10) ≤ℤ (m i i -ℤ pos (2 ^ k))
unfolding low_at
good_below n m k i low p e =
    let x = shifted k m in
    let first = no_fault (factor_fault n x) (unless_fault (errors_fault n x (pivot n x) (lower_at n k m)) (at_least_one (least_part k (largest_row n x (pivot n x) (lower_at n k m))))) low e in
    rw (when-true (i == i) (pos (2 ^ k)) (eq-eqb i i refl)) at (diagonal_least n x first.0 i p)

-- no shift that reaches the diagonal is good
pub too_high : (n : ℕ) (m : ℕ → ℕ → ℤ) (k i : ℕ) → i < n → m i i <ℤ pos (2 ^ k + 2 ^ 10) → low_at n m k ≡ None
too_high n m k i p h = none (low_at n m k) refl
  where
    not_both : (x : ℤ) (a b : ℕ) → pos b ≤ℤ (x -ℤ pos a) → x <ℤ pos (a + b) → ⊥
    not_both x a b h k = omega (arith, ints)

    none : (x : Option ℕ) → low_at n m k ≡ x → low_at n m k ≡ None
    none None e = e
    none (Some low) e = absurd (not_both (m i i) (2 ^ k) (2 ^ 10) (good_below n m k i low p e) h)

pub no_ball : (n : ℕ) (m : ℕ → ℕ → ℤ) (total k i : ℕ) → i < n → m i i <ℤ pos (2 ^ k + 2 ^ 10) → None ≡ ball_at n m total k
no_ball n m total k i p h = sym (ap (λ x. option_map (ball_from k total) x) (too_high n m k i p h))
