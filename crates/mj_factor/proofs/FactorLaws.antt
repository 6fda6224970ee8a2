-- The laws of `work` and `lower`: the equation of each entry, and that the entry of two dofs of which neither is above the other is 0.
use Rattle.std.proofs.Common.{◌≡◌, ℕ, zero, suc, ◌+◌, ◌^◌, ◌<◌, ◌≤◌, nat_lt, Bool, true, false, ℤ, pos, ◌-ℤ◌, ◌*ℤ◌, None, sym, ap, ap₂, ◌∙◌, subst, arith, inl, inr, ◌⊎◌}
use Rattle.std.proofs.lemmas.Bool.{cases_lt, cases_Bool, both_ways, false_from_ne_true, lt-ltb, le-ltb}
use Rattle.std.proofs.Math.Path.{fun_ext}
use lib.IntN.{zero-*ℤ, *ℤ-zero}
use Rattle.fx_whole.specs.Nearest.{nearest}
use Rattle.fx_whole.specs.Sums.{sum_to, when}
use Rattle.fx_whole.specs.Tables.{LooksLater, sum_after}
use Rattle.fx_whole.proofs.NearestLaws.{nearest-zero}
use Rattle.fx_whole.proofs.SumLaws.{sum_to-ext, sum_to-none, when-true, when-false}
use Rattle.fx_whole.proofs.TableLaws.{down-is, sum_after-ext}
use Rattle.mj_tree.specs.Tree.{IsForest}
use Rattle.mj_tree.specs.Listing.{start, height}
use Rattle.mj_factor.specs.Factors.{lower_of, work_entry, work, lower, entry_fault}
use Rattle.mj_factor.specs.Stored.{row_term}

-- ---- a product with a factor 0
pub zero_left : (x y : ℤ) → x ≡ pos 0 → x *ℤ y ≡ pos 0
zero_left x y e = ap (λ z. z *ℤ y) e ∙ zero-*ℤ y

pub zero_right : (x y : ℤ) → y ≡ pos 0 → x *ℤ y ≡ pos 0
zero_right x y e = ap (λ z. x *ℤ z) e ∙ *ℤ-zero x

-- no quotient but 0 of 0
pub none_of : (x s d : ℤ) → x ≡ pos 0 → nearest (x *ℤ s) d ≡ pos 0
none_of x s d e = ap (λ y. nearest y d) (zero_left x s e) ∙ nearest-zero d

module _ (n : ℕ) (m : ℕ → ℕ → ℤ) where
  pub work_is : (k i : ℕ) → k < n → work n m k i ≡ work_entry n m (work n m) k i
  unfolding work
  work_is k i h = ap (λ (r : ℕ → ℤ). r i) (down-is {A = ℕ → ℤ} n (λ j. pos 0) (λ w j c. work_entry n m w j c) later k h)
    where
      later : LooksLater {A = ℕ → ℤ} n (λ w j c. work_entry n m w j c)
      later f g j p same =
          fun_ext (λ c. ap (λ x. m j c -ℤ nearest x (pos (2 ^ 32)))
          (sum_after-ext j n (λ l. lower_of f l j *ℤ f l c) (λ l. lower_of g l j *ℤ g l c)
          (λ l q r. ap (λ (row : ℕ → ℤ). nearest (row j *ℤ pos (2 ^ 32)) (row l) *ℤ row c) (same l q r))))

  module _ (above : ℕ → ℕ → Bool) (forest : IsForest n above) (apart : (k i : ℕ) → k < n → i < k → above i k ≡ false → m k i ≡ pos 0) where
    -- of two dofs of which neither is above the other, where that holds of the later rows
    apart_step : (k i : ℕ) → k < n → i < k → above i k ≡ false
        → ((j c : ℕ) → k < j → j < n → c < j → above c j ≡ false → work n m j c ≡ pos 0) → work n m k i ≡ pos 0
    apart_step k i h l e rest =
        work_is k i h ∙ ap₂ (λ x y. x -ℤ nearest y (pos (2 ^ 32))) (apart k i h l e) none
        ∙ ap (λ x. pos 0 -ℤ x) (nearest-zero (pos (2 ^ 32)))
      where
        term : (j : ℕ) → j < n → k < j → lower n m j k *ℤ work n m j i ≡ pos 0
        term j p q =
            elim (cases_Bool (above k j)) [
              | inl t ↦ zero_right (lower n m j k) (work n m j i)
                  (rest j i q p (omega arith) (false_from_ne_true (above i j) (λ u. both_ways (above i k) e (forest.between i k j p l u t))))
              | inr t ↦ zero_left (lower n m j k) (work n m j i) (none_of (work n m j k) (pos (2 ^ 32)) (work n m j j) (rest j k q p q t))
            ]

        each : (j : ℕ) → j < n → when (nat_lt k j) (lower n m j k *ℤ work n m j i) ≡ pos 0
        each j p =
            elim (cases_lt k j) [
              | inl q ↦ when-true (nat_lt k j) _ (lt-ltb k j q) ∙ term j p q
              | inr q ↦ when-false (nat_lt k j) _ (le-ltb k j q)
            ]

        none : sum_after k n (λ j. lower n m j k *ℤ work n m j i) ≡ pos 0
        none = sum_to-none n (λ j. when (nat_lt k j) (lower n m j k *ℤ work n m j i)) each

    pub work_apart : (k i : ℕ) → k < n → i < k → above i k ≡ false → work n m k i ≡ pos 0
    work_apart k i = from n k i (omega arith)
      where
        from : (s k i : ℕ) → n ≤ k + s → k < n → i < k → above i k ≡ false → work n m k i ≡ pos 0
        from zero k i g h l e = absurd (omega arith)
        from (suc s) k i g h l e = apart_step k i h l e (λ j c q p r t. from s j c (omega arith) p r t)

    pub lower_apart : (k i : ℕ) → k < n → i < k → above i k ≡ false → lower n m k i ≡ pos 0
    lower_apart k i h l e = none_of (work n m k i) (pos (2 ^ 32)) (work n m k k) (work_apart k i h l e)

    -- so it has no fault
    pub entry_apart : (k i : ℕ) → k < n → i < k → above i k ≡ false → entry_fault k (work n m k i) (lower n m k i) ≡ None
    entry_apart k i h l e = ap₂ (entry_fault k) (work_apart k i h l e) (lower_apart k i h l e)

    -- the sum over the later rows is one over those that are stored
    pub sum_is_stored : (k i : ℕ) (l w : ℕ → ℤ) → k < n → (above i k ≡ true) ⊎ (i ≡ k)
        → ((j c : ℕ) → k < j → j < n → above c j ≡ true → w (start above j + height above c) ≡ work n m j c)
        → ((j c : ℕ) → k < j → j < n → above c j ≡ true → l (start above j + height above c) ≡ lower n m j c)
        → sum_to n (row_term above l w k (height above i)) ≡ sum_after k n (λ j. lower n m j k *ℤ work n m j i)
    sum_is_stored k i l w h which works lowers =
        sum_to-ext n (row_term above l w k (height above i)) (λ j. when (nat_lt k j) (lower n m j k *ℤ work n m j i)) each
      where
        -- i is above what k is above
        passes : (j : ℕ) → j < n → above k j ≡ true → above i j ≡ true
        passes j p t = elim which [ inl e ↦ forest.through i k j p e t | inr e ↦ subst (λ (x : ℕ). above x j ≡ true) (sym e) t ]

        no_term : (j : ℕ) → j < n → above k j ≡ false → when (nat_lt k j) (lower n m j k *ℤ work n m j i) ≡ pos 0
        no_term j p t =
            elim (cases_lt k j) [
              | inl q ↦
                  when-true (nat_lt k j) _ (lt-ltb k j q) ∙ zero_left (lower n m j k) (work n m j i) (lower_apart j k p q t)
              | inr q ↦ when-false (nat_lt k j) _ (le-ltb k j q)
            ]

        each : (j : ℕ) → j < n → row_term above l w k (height above i) j ≡ when (nat_lt k j) (lower n m j k *ℤ work n m j i)
        each j p =
            elim (cases_Bool (above k j)) [
              | inl t ↦
                  let q : k < j = forest.before k j t in
                  when-true (above k j) _ t ∙ ap₂ (λ x y. x *ℤ y) (lowers j k q p t) (works j i q p (passes j p t))
                  ∙ sym (when-true (nat_lt k j) _ (lt-ltb k j q))
              | inr t ↦ when-false (above k j) _ t ∙ sym (no_term j p t)
            ]
