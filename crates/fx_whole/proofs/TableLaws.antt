-- The laws of `value` and `down`, tables filled from one end, and of `sum_after`.
use Rattle.std.proofs.Common.{◌≡◌, ◌≢◌, ℕ, zero, suc, ◌+◌, ◌-◌, ◌<◌, ◌≤◌, ◌==◌, nat_lt, ℤ, refl, sym, ap, ◌∙◌, arith, add-one, inl, inr}
use Rattle.std.proofs.lemmas.Bool.{cases_eq, cases_lt, eq-eqb, ne_eqb, le-ltb, cond-true, cond-false}
use Rattle.fx_whole.specs.Sums.{when}
use Rattle.fx_whole.specs.Tables.{made, value, filled_down, down, LooksLater, sum_after}
use Rattle.fx_whole.proofs.SumLaws.{sum_to-ext, when-false}

-- ---- upwards
module _ {A : Type 0} (base : A) (next : ℕ → (ℕ → A) → A) where
  -- a place that was made stays
  pub made-is : (n k : ℕ) → k ≤ n → made base next n k ≡ value base next k
  unfolding made value
  made-is zero k h = let e : k ≡ 0 = omega arith in ap (λ (x : ℕ). made base next x k) (sym e)
  made-is (suc n) k h =
      elim (cases_eq k (suc n)) [
        | inl e ↦ ap (λ (x : ℕ). made base next x k) (sym e)
        | inr e ↦ cond-false (k == suc n) (next n (made base next n)) (made base next n k) (ne_eqb k (suc n) e) ∙ made-is n k (omega arith)
      ]

  pub value-zero : value base next 0 ≡ base
  unfolding made value
  value-zero = refl

  pub value-suc : (n : ℕ) → value base next (n + 1) ≡ next n (made base next n)
  unfolding made value
  value-suc n =
      ap (λ (k : ℕ). made base next k k) (add-one n)
      ∙ cond-true (suc n == suc n) (next n (made base next n)) (made base next n (suc n)) (eq-eqb (suc n) (suc n) refl)

  -- where `next n` reads the places up to n alone
  pub value-next : (n : ℕ) → ((f g : ℕ → A) → ((k : ℕ) → k ≤ n → f k ≡ g k) → next n f ≡ next n g) → value base next (n + 1) ≡ next n (value base next)
  value-next n reads = value-suc n ∙ reads (made base next n) (value base next) (λ k h. made-is n k h)

-- ---- downwards
module _ {A : Type 0} (n : ℕ) (none : A) (step : (ℕ → A) → ℕ → A) where
  -- a place that was not reached yet
  pub filled_down-none : (s k : ℕ) → k + s < n → filled_down n none step s k ≡ none
  unfolding filled_down
  filled_down-none zero k h = refl
  filled_down-none (suc s) k h =
      cond-false (k == n - 1 - s) (step (filled_down n none step s) k) (filled_down n none step s k) (ne_eqb k (n - 1 - s) (λ e. omega (arith, e, h)))
      ∙ filled_down-none s k (omega arith)

  -- one more place
  pub filled_down-here : (s k : ℕ) → k + (s + 1) ≡ n → filled_down n none step (s + 1) k ≡ step (filled_down n none step s) k
  unfolding filled_down
  filled_down-here s k h =
      ap (λ (t : ℕ). filled_down n none step t k) (add-one s)
      ∙ cond-true (k == n - 1 - s) (step (filled_down n none step s) k) (filled_down n none step s k) (eq-eqb k (n - 1 - s) (omega arith))

  pub filled_down-other : (s k : ℕ) → s < n → k + (s + 1) ≢ n → filled_down n none step (s + 1) k ≡ filled_down n none step s k
  unfolding filled_down
  filled_down-other s k l h =
      ap (λ (t : ℕ). filled_down n none step t k) (add-one s)
      ∙ cond-false (k == n - 1 - s) (step (filled_down n none step s) k) (filled_down n none step s k) (ne_eqb k (n - 1 - s) (λ e. h (omega (arith, e, l))))

  -- a place that was reached stays
  pub filled_down-is : (s k : ℕ) → s ≤ n → k < n → n ≤ k + s → filled_down n none step s k ≡ down n none step k
  unfolding down
  filled_down-is s k l h p = stays (n - s) s (omega arith) h p
    where
      stays : (d s : ℕ) → d + s ≡ n → k < n → n ≤ k + s → filled_down n none step s k ≡ down n none step k
      stays zero s e h p = ap (λ (t : ℕ). filled_down n none step t k) (omega (arith, e))
      stays (suc d) s e h p = sym (filled_down-other s k (omega arith) (omega arith)) ∙ stays d (s + 1) (omega arith) h (omega arith)

  pub down-is : LooksLater n step → (k : ℕ) → k < n → down n none step k ≡ step (down n none step) k
  down-is later k h =
      sym (filled_down-is (n - 1 - k + 1) k (omega arith) h (omega arith)) ∙ filled_down-here (n - 1 - k) k (omega arith)
      ∙ later (filled_down n none step (n - 1 - k)) (down n none step) k h (λ l p q. filled_down-is (n - 1 - k) l (omega arith) q (omega arith))

  pub down-past : (k : ℕ) → n ≤ k → down n none step k ≡ none
  unfolding down filled_down
  down-past k h = past n (omega arith)
    where
      past : (s : ℕ) → s ≤ n → filled_down n none step s k ≡ none
      past zero l = refl
      past (suc s) l =
          cond-false (k == n - 1 - s) (step (filled_down n none step s) k) (filled_down n none step s k) (ne_eqb k (n - 1 - s) (λ e. omega (arith, e, h, l)))
          ∙ past s (omega arith)

-- ---- sums of what is later
-- with this a step that adds up later places looks later
pub sum_after-ext : (k n : ℕ) (f g : ℕ → ℤ) → ((l : ℕ) → k < l → l < n → f l ≡ g l) → sum_after k n f ≡ sum_after k n g
sum_after-ext k n f g h = sum_to-ext n (λ l. when (nat_lt k l) (f l)) (λ l. when (nat_lt k l) (g l)) each
  where
    each : (l : ℕ) → l < n → when (nat_lt k l) (f l) ≡ when (nat_lt k l) (g l)
    each l p = elim (cases_lt k l) [
      | inl q ↦ ap (when (nat_lt k l)) (h l q p)
      | inr q ↦ when-false (nat_lt k l) (f l) (le-ltb k l q) ∙ sym (when-false (nat_lt k l) (g l) (le-ltb k l q))
    ]
