-- The laws of `passing`.
use Rattle.std.proofs.Common.{◌≡◌, ℕ, zero, suc, ◌+◌, ◌<◌, ◌==◌, ◌&&◌, Bool, true, false, cond, refl, sym, ap, ap₂, ◌∙◌, arith, add-one, inl, inr}
use Rattle.std.proofs.lemmas.Bool.{cases_Bool, cases_eq, cond-true, cond-false, eq-eqb, ne_eqb}
use Rattle.fx_whole.specs.Counting.{count_to}
use Rattle.fx_whole.proofs.CountLaws.{count_to-yes, count_to-no, count_to-ext, count_to-below}
use Rattle.mj_dual.specs.Passing.{passing}

-- one place more
step : (n : ℕ) (p : ℕ → Bool) (k : ℕ) → passing (n + 1) p k ≡ cond (p n && count_to n p == k) n (passing n p k)
unfolding passing
step n p k = ap (λ (m : ℕ). passing m p k) (add-one n)

-- it passes, and comes after all that do
pub passing-last : (n : ℕ) (p : ℕ → Bool) → p n ≡ true → passing (n + 1) p (count_to n p) ≡ n
passing-last n p e =
    step n p (count_to n p)
    ∙ cond-true (p n && count_to n p == count_to n p) n (passing n p (count_to n p)) (ap₂ (λ x y. x && y) e (eq-eqb (count_to n p) (count_to n p) refl))

-- and is none of the others
pub passing-more : (n : ℕ) (p : ℕ → Bool) (k : ℕ) → k < count_to n p → passing (n + 1) p k ≡ passing n p k
passing-more n p k h =
    step n p k ∙ cond-false (p n && count_to n p == k) n (passing n p k) (ap (λ y. p n && y) (ne_eqb (count_to n p) k (λ e. absurd (omega arith))) ∙ no (p n))
  where
    no : (b : Bool) → (b && false) ≡ false
    no true = refl
    no false = refl

-- it is one of them
pub passing-below : (n : ℕ) (p : ℕ → Bool) (k : ℕ) → k < count_to n p → passing n p k < n
passing-below zero p k h = absurd (omega arith)
passing-below (suc n) p k h = rw (sym (add-one n)) (more n p k h (passing-below n p k))
  where
    more : (n : ℕ) (p : ℕ → Bool) (k : ℕ) → k < count_to (suc n) p → (k < count_to n p → passing n p k < n) → passing (n + 1) p k < n + 1
    more n p k h below =
        let one = ap (λ (m : ℕ). count_to m p) (add-one n) in
        elim (cases_Bool (p n)) [
          | inl e ↦ elim (cases_eq k (count_to n p)) [
            | inl q ↦ omega (arith, ap (passing (n + 1) p) q, passing-last n p e)
            | inr q ↦ (let l : k < count_to n p = omega (arith, one, count_to-yes n p e) in omega (arith, passing-more n p k l, below l))
          ]
          | inr e ↦ (let l : k < count_to n p = omega (arith, one, count_to-no n p e) in omega (arith, passing-more n p k l, below l))
        ]

-- tests that agree
pub passing-ext : (n : ℕ) (p q : ℕ → Bool) → ((i : ℕ) → i < n → p i ≡ q i) → (k : ℕ) → passing n p k ≡ passing n q k
unfolding passing
passing-ext zero p q h k = refl
passing-ext (suc n) p q h k =
    ap₂ (λ b (m : ℕ). cond b n m)
    (ap₂ (λ x (c : ℕ). x && c == k) (h n (omega arith)) (count_to-ext n p q (λ i l. h i (omega arith))))
    (passing-ext n p q (λ i l. h i (omega arith)) k)

-- it passes
pub passing-passes : (n : ℕ) (p : ℕ → Bool) (k : ℕ) → k < count_to n p → p (passing n p k) ≡ true
passing-passes zero p k h = absurd (omega arith)
passing-passes (suc n) p k h = ap (λ (i : ℕ). p (passing i p k)) (sym (add-one n)) ∙ more n p k h (passing-passes n p k)
  where
    more : (n : ℕ) (p : ℕ → Bool) (k : ℕ) → k < count_to (suc n) p → (k < count_to n p → p (passing n p k) ≡ true) → p (passing (n + 1) p k) ≡ true
    more n p k h below =
        let one = ap (λ (m : ℕ). count_to m p) (add-one n) in
        elim (cases_Bool (p n)) [
          | inl e ↦ elim (cases_eq k (count_to n p)) [
            | inl q ↦ ap p (ap (passing (n + 1) p) q ∙ passing-last n p e) ∙ e
            | inr q ↦ (let l : k < count_to n p = omega (arith, one, count_to-yes n p e) in ap p (passing-more n p k l) ∙ below l)
          ]
          | inr e ↦ (let l : k < count_to n p = omega (arith, one, count_to-no n p e) in ap p (passing-more n p k l) ∙ below l)
        ]

-- and each that passes is found after those before it
pub passing-each : (n i : ℕ) (p : ℕ → Bool) → i < n → p i ≡ true → passing n p (count_to i p) ≡ i
passing-each zero i p h e = absurd (omega arith)
passing-each (suc n) i p h e = ap (λ (k : ℕ). passing k p (count_to i p)) (sym (add-one n)) ∙ more (passing-each n i p)
  where
    more : (i < n → p i ≡ true → passing n p (count_to i p) ≡ i) → passing (n + 1) p (count_to i p) ≡ i
    more below = elim (cases_eq i n) [
      | inl q ↦ ap (λ (k : ℕ). passing (n + 1) p (count_to k p)) q ∙ passing-last n p (ap p (sym q) ∙ e) ∙ sym q
      | inr q ↦ (let l : i < n = omega arith in passing-more n p (count_to i p) (count_to-below i n p l e) ∙ below l e)
    ]
