-- The laws of `seen`, and records of vectors and widths that are equal.
use Rattle.std.proofs.Common.{◌≡◌, ◌≢◌, ℕ, zero, suc, ◌<◌, ◌≤◌, List, [], ◌∷◌, length, slice_index_or, refl, sym, ap, ap₂, ◌∙◌, arith, inl, inr, ℤ}
use Rattle.std.proofs.lemmas.Bool.{cases_lt}
use Rattle.fx_vec.specs.Spatial.{Spatial}
use Rattle.mj_bias.specs.Measures.{Measured, measured, seen}

pub seen-or : {A B : Type 0} (read : A → B) (none : B) (xs : List A) (i : ℕ) (d : A) → i < length xs → seen read none xs i ≡ read (slice_index_or xs i d)
unfolding seen
seen-or read none [] i d h = absurd (omega arith)
seen-or read none (x ∷ xs) zero d h = refl
seen-or read none (x ∷ xs) (suc i) d h = seen-or read none xs i d (omega arith)

pub seen-past : {A B : Type 0} (read : A → B) (none : B) (xs : List A) (i : ℕ) → length xs ≤ i → seen read none xs i ≡ none
unfolding seen
seen-past read none [] i h = refl
seen-past read none (x ∷ xs) zero h = absurd (omega arith)
seen-past read none (x ∷ xs) (suc i) h = seen-past read none xs i (omega arith)

-- what `at` and `entry` give
pub seen-read : {A B : Type 0} (read : A → B) (none : B) (xs : List A) (i : ℕ) (x : A) → i < length xs → ((d : A) → slice_index_or xs i d ≡ x) → seen read none xs i ≡ read x
seen-read read none xs i x h e = seen-or read none xs i x h ∙ ap read (e x)

-- what `put` leaves
pub seen-same : {A B : Type 0} (read : A → B) (none : B) (xs ys : List A) (i : ℕ) (x : A) → length ys ≡ length xs → i < length xs → ((d : A) → slice_index_or ys i d ≡ x) → seen read none ys i ≡ read x
seen-same read none xs ys i x l h e = seen-read read none ys i x (omega arith) e

pub seen-other : {A B : Type 0} (read : A → B) (none : B) (xs ys : List A) (i j : ℕ) (x : A) → length ys ≡ length xs
    → ((d : A) (k : ℕ) → k ≢ i → slice_index_or ys k d ≡ slice_index_or xs k d) → j ≢ i → seen read none ys j ≡ seen read none xs j
seen-other read none xs ys i j x l e n =
    elim (cases_lt j (length xs)) [
      | inl h ↦ seen-or read none ys j x (omega arith) ∙ ap read (e x j n) ∙ sym (seen-or read none xs j x h)
      | inr h ↦ seen-past read none ys j (omega arith) ∙ sym (seen-past read none xs j h)
    ]

pub same_measured : (a b : Measured) → a.value ≡ b.value → a.width ≡ b.width → a ≡ b
same_measured a b e f = ap₂ (λ (s : Spatial ℤ) (w : Spatial ℕ). measured s w) e f
