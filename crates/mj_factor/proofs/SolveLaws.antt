-- The laws of `back` and `forth`: the equation of each number, and sums over later rows that grow row after row.
use Rattle.std.proofs.Common.{◌≡◌, ℕ, zero, suc, ◌+◌, ◌*◌, ◌^◌, ◌<◌, ◌≤◌, ◌==◌, nat_lt, nat_le, ℤ, pos, ◌+ℤ◌, ◌-ℤ◌, ◌*ℤ◌, unsigned_abs, refl, sym, ap, ap₂, ◌∙◌, arith, add-one, mul-le-mul_right, inl, inr}
use Rattle.std.proofs.lemmas.Bool.{cases_lt, cases_eq, le-leb, lt-leb, eq-eqb, ne_eqb}
use Rattle.std.proofs.lemmas.Int.{ints}
use Rattle.fx_whole.specs.Nearest.{nearest}
use Rattle.fx_whole.specs.Sums.{sum_to, when}
use Rattle.fx_whole.specs.Tables.{LooksLater, sum_after}
use Rattle.fx_whole.proofs.SumLaws.{sum_to-ext, sum_to-add, sum_to-single, sum_to-none, sum_to-bounded, when-true, when-false, when-size}
use Rattle.fx_whole.proofs.TableLaws.{down-is, down-past, sum_after-ext, value-zero, value-next}
use Rattle.mj_factor.specs.Solves.{back_entry, back, forth_entry, forth}
use Rattle.mj_factor.specs.Stored.{sum_from}

-- ---- the equations
pub back_is : (n : ℕ) (l : ℕ → ℕ → ℤ) (x : ℕ → ℤ) (i : ℕ) → i < n → back n l x i ≡ back_entry n l x (back n l x) i
unfolding back
back_is n l x i h = down-is n (pos 0) (back_entry n l x) later i h
  where
    later : LooksLater n (back_entry n l x)
    later f g k p same =
        ap (λ s. x k -ℤ nearest s (pos (2 ^ 32)))
        (sum_after-ext k n (λ j. l j k *ℤ f j) (λ j. l j k *ℤ g j) (λ j q r. ap (λ y. l j k *ℤ y) (same j q r)))

pub forth_is : (l : ℕ → ℕ → ℤ) (z : ℕ → ℤ) (i : ℕ) → forth l z i ≡ forth_entry l z (forth l z) i
unfolding forth
forth_is l z zero = value-zero (forth_entry l z (λ k. pos 0) 0) (λ i a. forth_entry l z a (i + 1))
forth_is l z (suc i) =
    ap (λ (k : ℕ). forth l z k) (sym (add-one i))
    ∙ value-next (forth_entry l z (λ k. pos 0) 0) (λ j a. forth_entry l z a (j + 1)) i
    (λ f g same. ap (λ s. z (i + 1) -ℤ nearest s (pos (2 ^ 32)))
    (sum_to-ext (i + 1) (λ k. l (i + 1) k *ℤ f k) (λ k. l (i + 1) k *ℤ g k) (λ k h. ap (λ y. l (i + 1) k *ℤ y) (same k (omega arith)))))
    ∙ ap (λ (k : ℕ). forth_entry l z (forth l z) k) (add-one i)

-- ---- sums over the rows from p on
module _ (n : ℕ) (f : ℕ → ℤ) where
  pub sum_from-none : sum_from n n f ≡ pos 0
  sum_from-none = sum_to-none n (λ j. when (nat_le n j) (f j)) (λ j h. when-false (nat_le n j) (f j) (lt-leb n j h))

  pub sum_from-after : (k : ℕ) → sum_from (k + 1) n f ≡ sum_after k n f
  sum_from-after k =
      sum_to-ext n (λ j. when (nat_le (k + 1) j) (f j)) (λ j. when (nat_lt k j) (f j))
      (λ j h. ap (λ (b : ℕ). when (nat_le b j) (f j)) (add-one k))

  -- one more row
  pub sum_from-more : (k : ℕ) → k < n → sum_from k n f ≡ sum_from (k + 1) n f +ℤ f k
  sum_from-more k h =
      sum_to-ext n (λ j. when (nat_le k j) (f j)) (λ j. when (nat_le (k + 1) j) (f j) +ℤ when (j == k) (f j)) each
      ∙ sum_to-add n (λ j. when (nat_le (k + 1) j) (f j)) (λ j. when (j == k) (f j))
      ∙ ap (λ y. sum_from (k + 1) n f +ℤ y)
      (sum_to-single n k (λ j. when (j == k) (f j)) h (λ j p q. when-false (j == k) (f j) (ne_eqb j k q)) ∙ when-true (k == k) (f k) (eq-eqb k k refl))
    where
      each : (j : ℕ) → j < n → when (nat_le k j) (f j) ≡ when (nat_le (k + 1) j) (f j) +ℤ when (j == k) (f j)
      each j p =
          elim (cases_eq j k) [
            | inl e ↦
                when-true (nat_le k j) (f j) (le-leb k j (omega arith))
                ∙ sym (ap₂ (λ a b. a +ℤ b) (when-false (nat_le (k + 1) j) (f j) (lt-leb (k + 1) j (omega arith))) (when-true (j == k) (f j) (eq-eqb j k e))
                ∙ omega (arith, ints))
            | inr e ↦ elim (cases_lt k j) [
              | inl q ↦
                  when-true (nat_le k j) (f j) (le-leb k j (omega arith))
                  ∙ sym (ap₂ (λ a b. a +ℤ b) (when-true (nat_le (k + 1) j) (f j) (le-leb (k + 1) j (omega arith))) (when-false (j == k) (f j) (ne_eqb j k e))
                  ∙ omega (arith, ints))
              | inr q ↦
                  when-false (nat_le k j) (f j) (lt-leb k j (omega arith))
                  ∙ sym (ap₂ (λ a b. a +ℤ b) (when-false (nat_le (k + 1) j) (f j) (lt-leb (k + 1) j (omega arith))) (when-false (j == k) (f j) (ne_eqb j k e))
                  ∙ omega (arith, ints))
            ]
          ]

  pub sum_from-small : (p limit : ℕ) → n ≤ 64 → ((j : ℕ) → p ≤ j → j < n → unsigned_abs (f j) ≤ limit) → unsigned_abs (sum_from p n f) ≤ 64 * limit
  sum_from-small p limit few small =
      omega (arith, sum_to-bounded n limit (λ j. when (nat_le p j) (f j)) each, mul-le-mul_right limit few)
    where
      each : (j : ℕ) → j < n → unsigned_abs (when (nat_le p j) (f j)) ≤ limit
      each j h =
          elim (cases_lt j p) [
            | inl q ↦ omega (arith, ap unsigned_abs (when-false (nat_le p j) (f j) (lt-leb p j q)))
            | inr q ↦ omega (arith, small j q h, when-size (nat_le p j) (f j))
          ]

-- past the last dof
pub back_past : (n : ℕ) (l : ℕ → ℕ → ℤ) (x : ℕ → ℤ) (i : ℕ) → n ≤ i → back n l x i ≡ pos 0
unfolding back
back_past n l x i h = down-past n (pos 0) (back_entry n l x) i h

-- a sum over earlier numbers
pub forth_from : (l : ℕ → ℕ → ℤ) (z a : ℕ → ℤ) (i : ℕ) → ((k : ℕ) → k < i → a k ≡ forth l z k) → forth_entry l z a i ≡ forth l z i
forth_from l z a i same =
    ap (λ s. z i -ℤ nearest s (pos (2 ^ 32))) (sum_to-ext i (λ k. l i k *ℤ a k) (λ k. l i k *ℤ forth l z k) (λ k h. ap (λ y. l i k *ℤ y) (same k h)))
    ∙ sym (forth_is l z i)

pub forth_at : (l : ℕ → ℕ → ℤ) (z z' a : ℕ → ℤ) (i : ℕ) → z' i ≡ z i → ((k : ℕ) → k < i → a k ≡ forth l z k) → forth_entry l z' a i ≡ forth l z i
forth_at l z z' a i e same = ap (λ y. y -ℤ nearest (sum_to i (λ k. l i k *ℤ a k)) (pos (2 ^ 32))) e ∙ forth_from l z a i same
