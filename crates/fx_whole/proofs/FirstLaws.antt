-- The laws of `or_first` and `first_to`.
use Rattle.std.proofs.Common.{◌≡◌, ℕ, zero, suc, ◌+◌, ◌<◌, ◌≤◌, ◌-◌, ◌↔◌, ◌⊎◌, Option, Some, None, refl, sym, ap, ap₂, ◌∙◌, arith, add-one, add-zero, add-suc, inl, inr}
use Rattle.std.proofs.lemmas.Bool.{cases_eq}
use Rattle.fx_whole.specs.First.{or_first, first_to}

-- ---- of two
pub or_pass : {F : Type 0} → (a b : Option F) → a ≡ None → or_first a b ≡ b
or_pass a b e = ap (λ x. or_first x b) e

pub or_stop : {F : Type 0} → (a b : Option F) (e : F) → a ≡ Some e → or_first a b ≡ Some e
or_stop a b e h = ap (λ x. or_first x b) h

pub or_none : {F : Type 0} → (a : Option F) → or_first a None ≡ a
or_none None = refl
or_none (Some e) = refl

pub or_assoc : {F : Type 0} → (a b c : Option F) → or_first (or_first a b) c ≡ or_first a (or_first b c)
or_assoc None b c = refl
or_assoc (Some e) b c = refl

-- neither is there
pub or_both : {F : Type 0} → (a b : Option F) → or_first a b ≡ None → (a ≡ None) × (b ≡ None)
or_both None b h = (refl, h)
or_both (Some e) b h = cc

-- which of the two is the first
pub or_which : {F : Type 0} → (a b : Option F) (e : F) → or_first a b ≡ Some e → (a ≡ Some e) ⊎ ((a ≡ None) × (b ≡ Some e))
or_which None b e h = inr (refl, h)
or_which (Some x) b e h = inl h

-- ---- of a row
pub first_more : {F : Type 0} → (n : ℕ) (f : ℕ → Option F) → first_to (n + 1) f ≡ or_first (first_to n f) (f n)
first_more n f = ap (λ (m : ℕ). first_to m f) (add-one n)

pub first_ext : {F : Type 0} → (n : ℕ) (f g : ℕ → Option F) → ((k : ℕ) → k < n → f k ≡ g k) → first_to n f ≡ first_to n g
first_ext zero f g h = refl
first_ext (suc n) f g h = ap₂ (λ x y. or_first x y) (first_ext n f g (λ k p. h k (omega arith))) (h n (omega arith))

-- the first m of them, and the n after these
pub first_split : {F : Type 0} → (m n : ℕ) (f : ℕ → Option F) → first_to (m + n) f ≡ or_first (first_to m f) (first_to n (λ k. f (m + k)))
first_split m zero f = ap (λ (k : ℕ). first_to k f) (add-zero m) ∙ sym (or_none (first_to m f))
first_split m (suc n) f =
    ap (λ (k : ℕ). first_to k f) (add-suc m n) ∙ ap (λ x. or_first x (f (m + n))) (first_split m n f) ∙ or_assoc (first_to m f) (first_to n (λ k. f (m + k))) (f (m + n))

-- what is found stays
pub first_stop : {F : Type 0} → (n m : ℕ) (f : ℕ → Option F) (e : F) → n ≤ m → first_to n f ≡ Some e → first_to m f ≡ Some e
first_stop n m f e h g =
    let s : n + (m - n) ≡ m = omega arith in
    ap (λ (k : ℕ). first_to k f) (sym s) ∙ first_split n (m - n) f ∙ or_stop (first_to n f) (first_to (m - n) (λ k. f (n + k))) e g

-- none before n, and one at n
pub first_here : {F : Type 0} → (n m : ℕ) (f : ℕ → Option F) (e : F) → n < m → first_to n f ≡ None → f n ≡ Some e → first_to m f ≡ Some e
first_here n m f e h z g = first_stop (suc n) m f e h (or_pass (first_to n f) (f n) z ∙ g)

-- the same two as clauses say it: a call's `refusal_of result` stands at the left, which is `Some e` where it refuses and `None` where not
-- a refusal at n is the first
pub stop_here : {F : Type 0} → (n m : ℕ) (f : ℕ → Option F) (e : F) → n < m → first_to n f ≡ None → Some e ≡ f n → Some e ≡ first_to m f
stop_here n m f e h z g = sym (first_here n m f e h z (sym g))

-- none at n: none yet
pub pass_more : {F : Type 0} → (n : ℕ) (f : ℕ → Option F) → first_to n f ≡ None → None ≡ f n → first_to (n + 1) f ≡ None
pass_more n f z g = first_more n f ∙ or_pass (first_to n f) (f n) z ∙ sym g

-- no refusal of a call that has n turns
pub pass_all : {F : Type 0} → (n m : ℕ) (f : ℕ → Option F) → n ≡ m → first_to n f ≡ None → None ≡ first_to m f
pass_all n m f e z = sym z ∙ ap (λ (k : ℕ). first_to k f) e

-- of two calls in a row
pub stop_first : {F : Type 0} → (a b : Option F) (e : F) → Some e ≡ a → Some e ≡ or_first a b
stop_first a b e h = ap (λ x. or_first x b) h

pub pass_first : {F : Type 0} → (a b r : Option F) → None ≡ a → r ≡ b → r ≡ or_first a b
pass_first a b r h g = g ∙ ap (λ x. or_first x b) h

-- none there, if and only if each is absent
pub first_none : {F : Type 0} → (n : ℕ) (f : ℕ → Option F) → (first_to n f ≡ None) ↔ ((k : ℕ) → k < n → f k ≡ None)
first_none n f = (each n, all n)
  where
    each : (n : ℕ) → first_to n f ≡ None → (k : ℕ) → k < n → f k ≡ None
    each zero h k p = absurd (omega arith)
    each (suc n) h k p =
        let both = or_both (first_to n f) (f n) h in
        elim (cases_eq k n) [ inl e ↦ ap f e ∙ both.1 | inr e ↦ each n both.0 k (omega arith) ]

    all : (n : ℕ) → ((k : ℕ) → k < n → f k ≡ None) → first_to n f ≡ None
    all zero h = refl
    all (suc n) h = or_pass (first_to n f) (f n) (all n (λ k p. h k (omega arith))) ∙ h n (omega arith)

-- the one found is at the least place that has one
pub first_some : {F : Type 0} → (n : ℕ) (f : ℕ → Option F) (e : F) → first_to n f ≡ Some e → (k : ℕ) × (k < n) × (f k ≡ Some e) × ((j : ℕ) → j < k → f j ≡ None)
first_some zero f e h = cc
first_some (suc n) f e h =
    elim (or_which (first_to n f) (f n) e h) [
      | inl p ↦ (let r = first_some n f e p in (r.0, omega (arith, r.1), r.2, r.3))
      | inr p ↦ (n, omega arith, p.1, (first_none n f).0 p.0)
    ]
