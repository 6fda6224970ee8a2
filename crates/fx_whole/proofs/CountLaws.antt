-- The laws of `count_to`, and from all places to those that a list names.
use Rattle.std.proofs.Common.{◌≡◌, ℕ, zero, suc, ◌+◌, ◌<◌, ◌≤◌, Bool, true, false, cond, ℤ, Option, None, refl, sym, ap, ◌∙◌, arith, add-zero, inl, inr}
use Rattle.std.proofs.lemmas.Bool.{cases_Bool, cond-true, cond-false}
use Rattle.fx_whole.specs.Adding.{Adding, IsAdding, sum_in, when_in, integers}
use Rattle.fx_whole.specs.Counting.{count_to}
use Rattle.fx_whole.specs.First.{or_first, first_to}
use Rattle.fx_whole.specs.Sums.{sum_to, when}
use Rattle.fx_whole.proofs.AddingLaws.{sum_in-more, when_in-true, when_in-false, integers-is_adding, sum_in-integers}
use Rattle.fx_whole.proofs.FirstLaws.{first_more, or_none}
use Rattle.fx_whole.proofs.SumLaws.{sum_ℕ_to-ext, sum_ℕ_to-le, sum_ℕ_to-more}

-- ---- counting
-- one more place, which passes or doesn't
pub count_to-yes : (n : ℕ) (p : ℕ → Bool) → p n ≡ true → count_to (n + 1) p ≡ count_to n p + 1
count_to-yes n p e = sum_ℕ_to-more n (λ i. cond {A = ℕ} (p i) 1 0) ∙ ap (λ (x : ℕ). count_to n p + x) (cond-true {A = ℕ} (p n) 1 0 e)

pub count_to-no : (n : ℕ) (p : ℕ → Bool) → p n ≡ false → count_to (n + 1) p ≡ count_to n p
count_to-no n p e =
    sum_ℕ_to-more n (λ i. cond {A = ℕ} (p i) 1 0) ∙ ap (λ (x : ℕ). count_to n p + x) (cond-false {A = ℕ} (p n) 1 0 e) ∙ add-zero (count_to n p)

pub count_to-ext : (n : ℕ) (p q : ℕ → Bool) → ((i : ℕ) → i < n → p i ≡ q i) → count_to n p ≡ count_to n q
count_to-ext n p q h = sum_ℕ_to-ext n (λ i. cond {A = ℕ} (p i) 1 0) (λ i. cond {A = ℕ} (q i) 1 0) (λ i l. ap (λ b. cond {A = ℕ} b 1 0) (h i l))

pub count_to-mono : (m n : ℕ) (p : ℕ → Bool) → m ≤ n → count_to m p ≤ count_to n p
count_to-mono m n p h = sum_ℕ_to-le m n (λ i. cond {A = ℕ} (p i) 1 0) h

-- a place that passes is counted
pub count_to-below : (i n : ℕ) (p : ℕ → Bool) → i < n → p i ≡ true → count_to i p < count_to n p
count_to-below i n p h e = omega (arith, count_to-yes i p e, count_to-mono (i + 1) n p (omega arith))

pub count_to-size : (n : ℕ) (p : ℕ → Bool) → count_to n p ≤ n
count_to-size zero p = omega arith
count_to-size (suc n) p =
    elim (cases_Bool (p n)) [
      | inl e ↦ omega (arith, count_to-size n p, cond-true {A = ℕ} (p n) 1 0 e)
      | inr e ↦ omega (arith, count_to-size n p, cond-false {A = ℕ} (p n) 1 0 e)
    ]

-- none passes
pub count_to-none : (n : ℕ) (p : ℕ → Bool) → ((i : ℕ) → i < n → p i ≡ false) → count_to n p ≡ 0
count_to-none zero p h = refl
count_to-none (suc n) p h =
    omega (arith, count_to-none n p (λ i l. h i (omega arith)), cond-false {A = ℕ} (p n) 1 0 (h n (omega arith)))

-- each passes
pub count_to-all : (n : ℕ) (p : ℕ → Bool) → ((i : ℕ) → i < n → p i ≡ true) → count_to n p ≡ n
count_to-all zero p h = refl
count_to-all (suc n) p h =
    omega (arith, count_to-all n p (λ i l. h i (omega arith)), cond-true {A = ℕ} (p n) 1 0 (h n (omega arith)))

-- ---- listed places: `name c` is the place that passes after c others
-- a sum over the places that pass is one over the list
pub sum_in-listed : {A : Type 0} → (m : Adding A) → IsAdding m → (n : ℕ) (p : ℕ → Bool) (name : ℕ → ℕ) (f : ℕ → A)
    → ((i : ℕ) → i < n → p i ≡ true → name (count_to i p) ≡ i)
    → sum_in m n (λ i. when_in m (p i) (f i)) ≡ sum_in m (count_to n p) (λ c. f (name c))
sum_in-listed m laws zero p name f h = refl
sum_in-listed {A = A} m laws (suc n) p name f h =
    ap (λ x. m.plus x (when_in m (p n) (f n))) (sum_in-listed m laws n p name f (λ i l. h i (omega arith))) ∙ last
  where
    named : ℕ → A
    named c = f (name c)

    last : m.plus (sum_in m (count_to n p) named) (when_in m (p n) (f n)) ≡ sum_in m (count_to (suc n) p) named
    last = elim (cases_Bool (p n)) [
      | inl e ↦
          ap (m.plus (sum_in m (count_to n p) named)) (when_in-true m (p n) (f n) e ∙ ap f (sym (h n (omega arith) e)))
          ∙ sym (sum_in-more m (count_to n p) named)
          ∙ ap (λ (k : ℕ). sum_in m (count_to n p + k) named) (sym (cond-true {A = ℕ} (p n) 1 0 e))
      | inr e ↦
          ap (m.plus (sum_in m (count_to n p) named)) (when_in-false m (p n) (f n) e) ∙ laws.alone (sum_in m (count_to n p) named)
          ∙ ap (λ (k : ℕ). sum_in m k named) (sym (add-zero (count_to n p)))
          ∙ ap (λ (k : ℕ). sum_in m (count_to n p + k) named) (sym (cond-false {A = ℕ} (p n) 1 0 e))
    ]

pub sum_to-listed : (n : ℕ) (p : ℕ → Bool) (name : ℕ → ℕ) (f : ℕ → ℤ) → ((i : ℕ) → i < n → p i ≡ true → name (count_to i p) ≡ i)
    → sum_to n (λ i. when (p i) (f i)) ≡ sum_to (count_to n p) (λ c. f (name c))
sum_to-listed n p name f h =
    sym (sum_in-integers n (λ i. when (p i) (f i))) ∙ sum_in-listed integers integers-is_adding n p name f h
    ∙ sum_in-integers (count_to n p) (λ c. f (name c))

-- the first fault, where the other places have none, is the first over the list
pub first_to-listed : {F : Type 0} → (n : ℕ) (p : ℕ → Bool) (name : ℕ → ℕ) (f : ℕ → Option F)
    → ((i : ℕ) → i < n → p i ≡ true → name (count_to i p) ≡ i) → ((i : ℕ) → i < n → p i ≡ false → f i ≡ None)
    → first_to n f ≡ first_to (count_to n p) (λ c. f (name c))
first_to-listed zero p name f h z = refl
first_to-listed {F = F} (suc n) p name f h z =
    ap (λ x. or_first x (f n)) (first_to-listed n p name f (λ i l. h i (omega arith)) (λ i l. z i (omega arith))) ∙ last
  where
    named : ℕ → Option F
    named c = f (name c)

    last : or_first (first_to (count_to n p) named) (f n) ≡ first_to (count_to (suc n) p) named
    last = elim (cases_Bool (p n)) [
      | inl e ↦
          ap (or_first (first_to (count_to n p) named)) (ap f (sym (h n (omega arith) e))) ∙ sym (first_more (count_to n p) named)
          ∙ ap (λ (k : ℕ). first_to (count_to n p + k) named) (sym (cond-true {A = ℕ} (p n) 1 0 e))
      | inr e ↦
          ap (or_first (first_to (count_to n p) named)) (z n (omega arith) e) ∙ or_none (first_to (count_to n p) named)
          ∙ ap (λ (k : ℕ). first_to k named) (sym (add-zero (count_to n p)))
          ∙ ap (λ (k : ℕ). first_to (count_to n p + k) named) (sym (cond-false {A = ℕ} (p n) 1 0 e))
    ]
