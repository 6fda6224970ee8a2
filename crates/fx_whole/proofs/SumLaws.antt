-- The laws of `sum_to`, `sum_ℕ_to` and `when`.
use Rattle.std.proofs.Common.{◌≡◌, ◌≢◌, ℕ, zero, suc, ◌+◌, ◌-◌, ◌*◌, ◌<◌, ◌≤◌, Bool, true, false, ℤ, pos, ◌+ℤ◌, ◌-ℤ◌, ◌*ℤ◌, neg_ℤ, ◌≤ℤ◌, unsigned_abs, refl, sym, ap, ap₂, ◌∙◌, subst, arith, add-one, add-zero, add-suc, inl, inr}
use Rattle.std.proofs.lemmas.Int.{ints}
use Rattle.std.proofs.lemmas.Bool.{cases_eq}
use lib.IntN.{zero-*ℤ, *ℤ-zero, +ℤ_idl, +ℤ_idr, +ℤ_comm, +ℤ_assoc}
use Rattle.fx_whole.specs.Sums.{sum_to, sum_ℕ_to, when}
use Rattle.fx_whole.proofs.Ring.{*ℤ_distrib_left, *ℤ_distrib_right, abs-add}

-- ---- sums
pub sum_to-more : (n : ℕ) (f : ℕ → ℤ) → sum_to (n + 1) f ≡ sum_to n f +ℤ f n
sum_to-more n f = ap (λ (m : ℕ). sum_to m f) (add-one n)

pub sum_to-ext : (n : ℕ) (f g : ℕ → ℤ) → ((k : ℕ) → k < n → f k ≡ g k) → sum_to n f ≡ sum_to n g
sum_to-ext zero f g h = refl
sum_to-ext (suc n) f g h = ap₂ (λ x y. x +ℤ y) (sum_to-ext n f g (λ k p. h k (omega arith))) (h n (omega arith))

pub sum_to-add : (n : ℕ) (f g : ℕ → ℤ) → sum_to n (λ k. f k +ℤ g k) ≡ sum_to n f +ℤ sum_to n g
sum_to-add zero f g = refl
sum_to-add (suc n) f g = omega (arith, ints, sum_to-add n f g)

pub sum_to-neg : (n : ℕ) (f : ℕ → ℤ) → sum_to n (λ k. neg_ℤ (f k)) ≡ neg_ℤ (sum_to n f)
sum_to-neg zero f = refl
sum_to-neg (suc n) f = omega (arith, ints, sum_to-neg n f)

pub sum_to-sub : (n : ℕ) (f g : ℕ → ℤ) → sum_to n (λ k. f k -ℤ g k) ≡ sum_to n f -ℤ sum_to n g
sum_to-sub zero f g = refl
sum_to-sub (suc n) f g = omega (arith, ints, sum_to-sub n f g)

pub sum_to-scale_left : (n : ℕ) (c : ℤ) (f : ℕ → ℤ) → sum_to n (λ k. c *ℤ f k) ≡ c *ℤ sum_to n f
sum_to-scale_left zero c f = sym (*ℤ-zero c)
sum_to-scale_left (suc n) c f = ap (λ x. x +ℤ c *ℤ f n) (sum_to-scale_left n c f) ∙ sym (*ℤ_distrib_left c (sum_to n f) (f n))

pub sum_to-scale_right : (n : ℕ) (f : ℕ → ℤ) (c : ℤ) → sum_to n (λ k. f k *ℤ c) ≡ sum_to n f *ℤ c
sum_to-scale_right zero f c = sym (zero-*ℤ c)
sum_to-scale_right (suc n) f c = ap (λ x. x +ℤ f n *ℤ c) (sum_to-scale_right n f c) ∙ sym (*ℤ_distrib_right (sum_to n f) (f n) c)

pub sum_to-zero : (n : ℕ) → sum_to n (λ k. pos 0) ≡ pos 0
sum_to-zero zero = refl
sum_to-zero (suc n) = ap (λ x. x +ℤ pos 0) (sum_to-zero n)

-- each term is 0
pub sum_to-none : (n : ℕ) (f : ℕ → ℤ) → ((k : ℕ) → k < n → f k ≡ pos 0) → sum_to n f ≡ pos 0
sum_to-none n f h = sum_to-ext n f (λ k. pos 0) h ∙ sum_to-zero n

pub sum_to-const : (n : ℕ) (c : ℤ) → sum_to n (λ k. c) ≡ pos n *ℤ c
sum_to-const zero c = sym (zero-*ℤ c)
sum_to-const (suc n) c = omega (arith, ints, sum_to-const n c)

pub sum_to-swap : (m n : ℕ) (f : ℕ → ℕ → ℤ) → sum_to m (λ i. sum_to n (λ j. f i j)) ≡ sum_to n (λ j. sum_to m (λ i. f i j))
sum_to-swap zero n f = sym (sum_to-zero n)
sum_to-swap (suc m) n f =
    ap (λ x. x +ℤ sum_to n (λ j. f m j)) (sum_to-swap m n f) ∙ sym (sum_to-add n (λ j. sum_to m (λ i. f i j)) (λ j. f m j))

-- the first m terms, and the n after them
pub sum_to-split : (m n : ℕ) (f : ℕ → ℤ) → sum_to (m + n) f ≡ sum_to m f +ℤ sum_to n (λ k. f (m + k))
sum_to-split m zero f = ap (λ (k : ℕ). sum_to k f) (add-zero m) ∙ sym (+ℤ_idr (sum_to m f))
sum_to-split m (suc n) f =
    ap (λ (k : ℕ). sum_to k f) (add-suc m n) ∙ ap (λ x. x +ℤ f (m + n)) (sum_to-split m n f) ∙ +ℤ_assoc (sum_to m f) (sum_to n (λ k. f (m + k))) (f (m + n))

pub sum_to-first : (n : ℕ) (f : ℕ → ℤ) → sum_to (suc n) f ≡ f 0 +ℤ sum_to n (λ k. f (suc k))
sum_to-first zero f = +ℤ_comm (pos 0) (f 0)
sum_to-first (suc n) f = ap (λ x. x +ℤ f (suc n)) (sum_to-first n f) ∙ +ℤ_assoc (f 0) (sum_to n (λ k. f (suc k))) (f (suc n))

-- no more terms past n
pub sum_to-past : (n m : ℕ) (f : ℕ → ℤ) → n ≤ m → ((k : ℕ) → n ≤ k → k < m → f k ≡ pos 0) → sum_to m f ≡ sum_to n f
sum_to-past n m f h z =
    let e : n + (m - n) ≡ m = omega arith in
    ap (λ (k : ℕ). sum_to k f) (sym e) ∙ sum_to-split n (m - n) f
    ∙ ap (λ x. sum_to n f +ℤ x) (sum_to-none (m - n) (λ k. f (n + k)) (λ k p. z (n + k) (omega arith) (omega arith))) ∙ +ℤ_idr (sum_to n f)

-- one term alone is not 0
pub sum_to-single : (n j : ℕ) (f : ℕ → ℤ) → j < n → ((k : ℕ) → k < n → k ≢ j → f k ≡ pos 0) → sum_to n f ≡ f j
sum_to-single zero j f h z = absurd (omega arith)
sum_to-single (suc n) j f h z =
    elim (cases_eq j n) [
      | inl e ↦ ap (λ x. x +ℤ f n) (sum_to-none n f (λ k p. z k (omega arith) (omega arith))) ∙ +ℤ_idl (f n) ∙ ap f (sym e)
      | inr e ↦ ap₂ (λ x y. x +ℤ y) (sum_to-single n j f (omega arith) (λ k p. z k (omega arith))) (z n (omega arith) (omega arith)) ∙ +ℤ_idr (f j)
    ]

pub sum_to-mono : (n : ℕ) (f g : ℕ → ℤ) → ((k : ℕ) → k < n → f k ≤ℤ g k) → sum_to n f ≤ℤ sum_to n g
sum_to-mono zero f g h = omega (arith, ints)
sum_to-mono (suc n) f g h = omega (arith, ints, sum_to-mono n f g (λ k p. h k (omega arith)), h n (omega arith))

pub sum_to-nonneg : (n : ℕ) (f : ℕ → ℤ) → ((k : ℕ) → k < n → pos 0 ≤ℤ f k) → pos 0 ≤ℤ sum_to n f
sum_to-nonneg zero f h = omega (arith, ints)
sum_to-nonneg (suc n) f h = omega (arith, ints, sum_to-nonneg n f (λ k p. h k (omega arith)), h n (omega arith))

pub sum_to-size : (n : ℕ) (f : ℕ → ℤ) → unsigned_abs (sum_to n f) ≤ sum_ℕ_to n (λ k. unsigned_abs (f k))
sum_to-size zero f = omega arith
sum_to-size (suc n) f = omega (arith, ints, sum_to-size n f)

-- no term is above m in size
pub sum_to-bounded : (n m : ℕ) (f : ℕ → ℤ) → ((k : ℕ) → k < n → unsigned_abs (f k) ≤ m) → unsigned_abs (sum_to n f) ≤ n * m
sum_to-bounded zero m f h = omega arith
sum_to-bounded (suc n) m f h = omega (arith, ints, sum_to-bounded n m f (λ k p. h k (omega arith)), h n (omega arith))

-- ---- sums of naturals
pub sum_ℕ_to-more : (n : ℕ) (f : ℕ → ℕ) → sum_ℕ_to (n + 1) f ≡ sum_ℕ_to n f + f n
sum_ℕ_to-more n f = ap (λ (m : ℕ). sum_ℕ_to m f) (add-one n)

pub sum_ℕ_to-ext : (n : ℕ) (f g : ℕ → ℕ) → ((k : ℕ) → k < n → f k ≡ g k) → sum_ℕ_to n f ≡ sum_ℕ_to n g
sum_ℕ_to-ext zero f g h = refl
sum_ℕ_to-ext (suc n) f g h = ap₂ (λ x y. x + y) (sum_ℕ_to-ext n f g (λ k p. h k (omega arith))) (h n (omega arith))

pub sum_ℕ_to-add : (n : ℕ) (f g : ℕ → ℕ) → sum_ℕ_to n (λ k. f k + g k) ≡ sum_ℕ_to n f + sum_ℕ_to n g
sum_ℕ_to-add zero f g = refl
sum_ℕ_to-add (suc n) f g = omega (arith, sum_ℕ_to-add n f g)

pub sum_ℕ_to-scale_left : (n c : ℕ) (f : ℕ → ℕ) → sum_ℕ_to n (λ k. c * f k) ≡ c * sum_ℕ_to n f
sum_ℕ_to-scale_left zero c f = omega arith
sum_ℕ_to-scale_left (suc n) c f = omega (arith, sum_ℕ_to-scale_left n c f)

pub sum_ℕ_to-scale_right : (n : ℕ) (f : ℕ → ℕ) (c : ℕ) → sum_ℕ_to n (λ k. f k * c) ≡ sum_ℕ_to n f * c
sum_ℕ_to-scale_right zero f c = omega arith
sum_ℕ_to-scale_right (suc n) f c = omega (arith, sum_ℕ_to-scale_right n f c)

pub sum_ℕ_to-const : (n c : ℕ) → sum_ℕ_to n (λ k. c) ≡ n * c
sum_ℕ_to-const zero c = omega arith
sum_ℕ_to-const (suc n) c = omega (arith, sum_ℕ_to-const n c)

pub sum_ℕ_to-mono : (n : ℕ) (f g : ℕ → ℕ) → ((k : ℕ) → k < n → f k ≤ g k) → sum_ℕ_to n f ≤ sum_ℕ_to n g
sum_ℕ_to-mono zero f g h = omega arith
sum_ℕ_to-mono (suc n) f g h = omega (arith, sum_ℕ_to-mono n f g (λ k p. h k (omega arith)), h n (omega arith))

-- no term is above m
pub sum_ℕ_to-bounded : (n m : ℕ) (f : ℕ → ℕ) → ((k : ℕ) → k < n → f k ≤ m) → sum_ℕ_to n f ≤ n * m
sum_ℕ_to-bounded zero m f h = omega arith
sum_ℕ_to-bounded (suc n) m f h = omega (arith, sum_ℕ_to-bounded n m f (λ k p. h k (omega arith)), h n (omega arith))

-- no part of a sum is above the whole
pub sum_ℕ_to-le : (m n : ℕ) (f : ℕ → ℕ) → m ≤ n → sum_ℕ_to m f ≤ sum_ℕ_to n f
sum_ℕ_to-le m zero f h = let e : m ≡ 0 = omega arith in rw e (omega arith)
sum_ℕ_to-le m (suc n) f h =
    elim (cases_eq m (suc n)) [ inl e ↦ rw e (omega arith) | inr e ↦ omega (arith, sum_ℕ_to-le m n f (omega arith)) ]

pub sum_ℕ_to-term : (n k : ℕ) (f : ℕ → ℕ) → k < n → f k ≤ sum_ℕ_to n f
sum_ℕ_to-term n k f h = omega (arith, sum_ℕ_to-le (suc k) n f h)

-- ---- terms under a condition
pub when-true : (b : Bool) (x : ℤ) → b ≡ true → when b x ≡ x
when-true b x e = ap (λ c. when c x) e

pub when-false : (b : Bool) (x : ℤ) → b ≡ false → when b x ≡ pos 0
when-false b x e = ap (λ c. when c x) e

pub when-zero : (b : Bool) → when b (pos 0) ≡ pos 0
when-zero true = refl
when-zero false = refl

pub when-size : (b : Bool) (x : ℤ) → unsigned_abs (when b x) ≤ unsigned_abs x
when-size true x = omega arith
when-size false x = omega arith

-- a sum with one term more
pub grows : (b : Bool) (new old x : ℤ) (m : ℕ) → new ≡ old +ℤ when b x → unsigned_abs x ≤ m → unsigned_abs new ≤ unsigned_abs old + m
grows b new old x m e h =
    subst (λ (n : ℤ). unsigned_abs n ≤ unsigned_abs old + m) (sym e) (sum (unsigned_abs (old +ℤ when b x)) (unsigned_abs old) (unsigned_abs (when b x)) (unsigned_abs x) m (abs-add old (when b x)) (when-size b x) h)
  where
    sum : (s o w x m : ℕ) → s ≤ o + w → w ≤ x → x ≤ m → s ≤ o + m
    sum s o w x m p q r = omega arith
