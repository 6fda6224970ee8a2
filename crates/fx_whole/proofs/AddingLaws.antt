-- The laws of `sum_in` and `when_in`.
use Rattle.std.proofs.Common.{◌≡◌, ◌≢◌, ℕ, zero, suc, ◌+◌, ◌-◌, ◌<◌, ◌≤◌, Bool, true, false, ℤ, ◌+ℤ◌, refl, sym, ap, ap₂, ◌∙◌, arith, add-one, add-zero, add-suc, inl, inr}
use Rattle.std.proofs.lemmas.Bool.{cases_eq}
use lib.IntN.{+ℤ_idr, +ℤ_comm, +ℤ_assoc}
use Rattle.fx_whole.specs.Adding.{Adding, IsAdding, sum_in, when_in, integers, naturals}
use Rattle.fx_whole.specs.Sums.{sum_to, sum_ℕ_to}

-- ---- of any adding
pub sum_in-more : {A : Type 0} → (m : Adding A) (n : ℕ) (f : ℕ → A) → sum_in m (n + 1) f ≡ m.plus (sum_in m n f) (f n)
sum_in-more m n f = ap (λ (k : ℕ). sum_in m k f) (add-one n)

pub sum_in-ext : {A : Type 0} → (m : Adding A) (n : ℕ) (f g : ℕ → A) → ((k : ℕ) → k < n → f k ≡ g k) → sum_in m n f ≡ sum_in m n g
sum_in-ext m zero f g h = refl
sum_in-ext m (suc n) f g h = ap₂ (λ x y. m.plus x y) (sum_in-ext m n f g (λ k p. h k (omega arith))) (h n (omega arith))

-- a map that keeps the empty sum and sums of two goes through
pub sum_in-map : {A B : Type 0} → (m : Adding A) (p : Adding B) (h : A → B) → h m.empty ≡ p.empty → ((a b : A) → h (m.plus a b) ≡ p.plus (h a) (h b))
    → (n : ℕ) (f : ℕ → A) → h (sum_in m n f) ≡ sum_in p n (λ k. h (f k))
sum_in-map m p h e s zero f = e
sum_in-map m p h e s (suc n) f = s (sum_in m n f) (f n) ∙ ap (λ x. p.plus x (h (f n))) (sum_in-map m p h e s n f)

-- what holds of the empty sum and passes on with each term: a bound that grows
pub sum_in-holds : {A : Type 0} → (m : Adding A) (P : ℕ → A → Type 0) (n : ℕ) (f : ℕ → A) → P 0 m.empty
    → ((k : ℕ) (a : A) → k < n → P k a → P (suc k) (m.plus a (f k))) → P n (sum_in m n f)
sum_in-holds m P zero f h s = h
sum_in-holds m P (suc n) f h s = s n (sum_in m n f) (omega arith) (sum_in-holds m P n f h (λ k a p. s k a (omega arith)))

-- the same of two sums side by side, as a value and its width
pub sum_in-both : {A B : Type 0} → (m : Adding A) (p : Adding B) (P : ℕ → A → B → Type 0) (n : ℕ) (f : ℕ → A) (g : ℕ → B) → P 0 m.empty p.empty
    → ((k : ℕ) (a : A) (b : B) → k < n → P k a b → P (suc k) (m.plus a (f k)) (p.plus b (g k))) → P n (sum_in m n f) (sum_in p n g)
sum_in-both m p P zero f g h s = h
sum_in-both m p P (suc n) f g h s =
    s n (sum_in m n f) (sum_in p n g) (omega arith) (sum_in-both m p P n f g h (λ k a b q. s k a b (omega arith)))

-- ---- where order and grouping don't matter
module _ {A : Type 0} (m : Adding A) (laws : IsAdding m) where
  pub empty_plus : (a : A) → m.plus m.empty a ≡ a
  empty_plus a = laws.swap m.empty a ∙ laws.alone a

  -- a + b + (c + d) as a + c + (b + d)
  pub plus_across : (a b c d : A) → m.plus (m.plus a b) (m.plus c d) ≡ m.plus (m.plus a c) (m.plus b d)
  plus_across a b c d =
      laws.group a b (m.plus c d)
      ∙ ap (m.plus a) (sym (laws.group b c d) ∙ ap (λ x. m.plus x d) (laws.swap b c) ∙ laws.group c b d)
      ∙ sym (laws.group a c (m.plus b d))

  -- each term is empty
  pub sum_in-none : (n : ℕ) (f : ℕ → A) → ((k : ℕ) → k < n → f k ≡ m.empty) → sum_in m n f ≡ m.empty
  sum_in-none zero f h = refl
  sum_in-none (suc n) f h = ap₂ (λ x y. m.plus x y) (sum_in-none n f (λ k p. h k (omega arith))) (h n (omega arith)) ∙ laws.alone m.empty

  pub sum_in-add : (n : ℕ) (f g : ℕ → A) → sum_in m n (λ k. m.plus (f k) (g k)) ≡ m.plus (sum_in m n f) (sum_in m n g)
  sum_in-add zero f g = sym (laws.alone m.empty)
  sum_in-add (suc n) f g =
      ap (λ x. m.plus x (m.plus (f n) (g n))) (sum_in-add n f g) ∙ plus_across (sum_in m n f) (sum_in m n g) (f n) (g n)

  pub sum_in-swap : (n l : ℕ) (f : ℕ → ℕ → A) → sum_in m n (λ i. sum_in m l (λ j. f i j)) ≡ sum_in m l (λ j. sum_in m n (λ i. f i j))
  sum_in-swap zero l f = sym (sum_in-none l (λ j. m.empty) (λ k p. refl))
  sum_in-swap (suc n) l f =
      ap (λ x. m.plus x (sum_in m l (λ j. f n j))) (sum_in-swap n l f) ∙ sym (sum_in-add l (λ j. sum_in m n (λ i. f i j)) (λ j. f n j))

  -- the first n terms, and the l after them
  pub sum_in-split : (n l : ℕ) (f : ℕ → A) → sum_in m (n + l) f ≡ m.plus (sum_in m n f) (sum_in m l (λ k. f (n + k)))
  sum_in-split n zero f = ap (λ (k : ℕ). sum_in m k f) (add-zero n) ∙ sym (laws.alone (sum_in m n f))
  sum_in-split n (suc l) f =
      ap (λ (k : ℕ). sum_in m k f) (add-suc n l) ∙ ap (λ x. m.plus x (f (n + l))) (sum_in-split n l f)
      ∙ laws.group (sum_in m n f) (sum_in m l (λ k. f (n + k))) (f (n + l))

  -- the first term, and the n after it
  pub sum_in-first : (n : ℕ) (f : ℕ → A) → sum_in m (suc n) f ≡ m.plus (f 0) (sum_in m n (λ k. f (suc k)))
  sum_in-first zero f = laws.swap m.empty (f 0)
  sum_in-first (suc n) f =
      ap (λ x. m.plus x (f (suc n))) (sum_in-first n f) ∙ laws.group (f 0) (sum_in m n (λ k. f (suc k))) (f (suc n))

  -- every term from n on is empty
  pub sum_in-past : (n l : ℕ) (f : ℕ → A) → n ≤ l → ((k : ℕ) → n ≤ k → k < l → f k ≡ m.empty) → sum_in m l f ≡ sum_in m n f
  sum_in-past n l f h z =
      let e : n + (l - n) ≡ l = omega arith in
      ap (λ (k : ℕ). sum_in m k f) (sym e) ∙ sum_in-split n (l - n) f
      ∙ ap (m.plus (sum_in m n f)) (sum_in-none (l - n) (λ k. f (n + k)) (λ k p. z (n + k) (omega arith) (omega arith))) ∙ laws.alone (sum_in m n f)

  -- one term alone isn't empty
  pub sum_in-single : (n j : ℕ) (f : ℕ → A) → j < n → ((k : ℕ) → k < n → k ≢ j → f k ≡ m.empty) → sum_in m n f ≡ f j
  sum_in-single zero j f h z = absurd (omega arith)
  sum_in-single (suc n) j f h z =
      elim (cases_eq j n) [
        | inl e ↦ ap (λ x. m.plus x (f n)) (sum_in-none n f (λ k p. z k (omega arith) (omega arith))) ∙ empty_plus (f n) ∙ ap f (sym e)
        | inr e ↦ ap₂ (λ x y. m.plus x y) (sum_in-single n j f (omega arith) (λ k p. z k (omega arith))) (z n (omega arith) (omega arith)) ∙ laws.alone (f j)
      ]

  pub when_in-sum : (b : Bool) (n : ℕ) (f : ℕ → A) → when_in m b (sum_in m n f) ≡ sum_in m n (λ k. when_in m b (f k))
  when_in-sum true n f = refl
  when_in-sum false n f = sym (sum_in-none n (λ k. m.empty) (λ k p. refl))

-- ---- terms under a condition
pub when_in-true : {A : Type 0} → (m : Adding A) (b : Bool) (x : A) → b ≡ true → when_in m b x ≡ x
when_in-true m b x e = ap (λ c. when_in m c x) e

pub when_in-false : {A : Type 0} → (m : Adding A) (b : Bool) (x : A) → b ≡ false → when_in m b x ≡ m.empty
when_in-false m b x e = ap (λ c. when_in m c x) e

pub when_in-empty : {A : Type 0} → (m : Adding A) (b : Bool) → when_in m b m.empty ≡ m.empty
when_in-empty m true = refl
when_in-empty m false = refl

-- a map that keeps the empty sum
pub when_in-map : {A B : Type 0} → (m : Adding A) (p : Adding B) (h : A → B) → h m.empty ≡ p.empty → (b : Bool) (x : A) → h (when_in m b x) ≡ when_in p b (h x)
when_in-map m p h e true x = refl
when_in-map m p h e false x = e

-- ---- of integers and of naturals
pub integers-is_adding : IsAdding integers
integers-is_adding = record { alone = λ a. +ℤ_idr a; swap = λ a b. +ℤ_comm a b; group = λ a b c. +ℤ_assoc a b c }

pub sum_in-integers : (n : ℕ) (f : ℕ → ℤ) → sum_in integers n f ≡ sum_to n f
sum_in-integers zero f = refl
sum_in-integers (suc n) f = ap (λ x. x +ℤ f n) (sum_in-integers n f)

pub sum_in-naturals : (n : ℕ) (f : ℕ → ℕ) → sum_in naturals n f ≡ sum_ℕ_to n f
sum_in-naturals zero f = refl
sum_in-naturals (suc n) f = ap (λ x. x + f n) (sum_in-naturals n f)
