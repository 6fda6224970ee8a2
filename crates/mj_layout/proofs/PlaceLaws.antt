-- What stands where in joined lists and in lists of a function's values.
use Rattle.std.proofs.Common.{◌≡◌, ℕ, zero, suc, ◌+◌, ◌-◌, ◌<◌, ◌≤◌, List, [], ◌∷◌, ◌++◌, length, get_or, sym, ap, ◌∙◌, arith, inl, inr, length-append}
use Rattle.std.proofs.lemmas.Bool.{cases_lt, cases_eq}
use Rattle.std.proofs.lemmas.List.{get_or_append_left, get_or-append-add}
use Rattle.fx_whole.specs.Sums.{sum_ℕ_to}
use Rattle.fx_whole.specs.Joined.{joined}
use Rattle.fx_whole.proofs.JoinedLaws.{joined-none, joined-more, joined-length}
use Rattle.fx_whole.proofs.SumLaws.{sum_ℕ_to-le, sum_ℕ_to-const}
use Rattle.mj_layout.specs.Layout.{listed}

-- what comes before part b
abbrev pub before : {A : Type 0} → (ℕ → List A) → ℕ → ℕ
before f b = sum_ℕ_to b (λ k. length (f k))

-- item i of part b
pub joined-at : {A : Type 0} → (n : ℕ) (f : ℕ → List A) (b i : ℕ) (d : A) → b < n → i < length (f b) → get_or (joined n f) (before f b + i) d ≡ get_or (f b) i d
unfolding joined
joined-at zero f b i d l m = absurd (omega arith)
joined-at (suc n) f b i d l m =
    elim (cases_eq b n) [
      | inl e ↦ last e
      | inr ne ↦ (let l' : b < n = omega arith in
          let p : before f b + i < length (joined n f) = omega (arith, joined-length n f, sum_ℕ_to-le (suc b) n (λ k. length (f k)) (omega arith)) in
          get_or_append_left (joined n f) (f n) d (before f b + i) p ∙ joined-at n f b i d l' m)
    ]
  where
    last : b ≡ n → get_or (joined n f ++ f n) (before f b + i) d ≡ get_or (f b) i d
    last e = rw e (ap (λ (k : ℕ). get_or (joined n f ++ f n) (k + i) d) (sym (joined-length n f)) ∙ get_or-append-add (joined n f) (f n) i d)

-- where a place of the joined list is
pub record Place {A : Type 0} (n : ℕ) (f : ℕ → List A) (j : ℕ) : Type 0 where
  pub part : ℕ
  pub rest : ℕ
  pub below : part < n
  pub inside : rest < length (f part)
  pub is : j ≡ before f part + rest

pub place_of : {A : Type 0} → (n : ℕ) (f : ℕ → List A) (j : ℕ) → j < length (joined n f) → Place n f j
unfolding joined
place_of zero f j l = absurd (omega arith)
place_of (suc n) f j l =
    elim (cases_lt j (length (joined n f))) [
      | inl p ↦ (let q = place_of n f j p in record { part = q.part; rest = q.rest; below = omega (arith, q.below); inside = q.inside; is = q.is })
      | inr p ↦ record { part = n; rest = j - length (joined n f); below = omega arith; inside = omega (arith, length-append (joined n f) (f n)); is = omega (arith, joined-length n f) }
    ]

-- and what stands there
pub place-at : {A : Type 0} → (n : ℕ) (f : ℕ → List A) (j : ℕ) (d : A) → (p : Place n f j) → get_or (joined n f) j d ≡ get_or (f p.part) p.rest d
place-at n f j d p = ap (λ (k : ℕ). get_or (joined n f) k d) p.is ∙ joined-at n f p.part p.rest d p.below p.inside

-- a place before part b is of an earlier part, and one from there on of b or a later one
pub place-before : {A : Type 0} → (n : ℕ) (f : ℕ → List A) (j b : ℕ) → (p : Place n f j) → j < before f b → p.part < b
place-before n f j b p l =
    elim (cases_lt p.part b) [
      | inl h ↦ h
      | inr h ↦ absurd (omega (arith, p.is, sum_ℕ_to-le b p.part (λ k. length (f k)) h))
    ]

pub place-after : {A : Type 0} → (n : ℕ) (f : ℕ → List A) (j b : ℕ) → (p : Place n f j) → before f b ≤ j → b ≤ p.part
place-after n f j b p l =
    elim (cases_lt p.part b) [
      | inl h ↦ absurd (omega (arith, p.is, p.inside, sum_ℕ_to-le (suc p.part) b (λ k. length (f k)) h))
      | inr h ↦ h
    ]

-- ---- lists of a function's values
pub listed-length : {A : Type 0} → (n : ℕ) (f : ℕ → A) → length (listed n f) ≡ n
listed-length n f = omega (arith, joined-length n (λ k. f k ∷ []), sum_ℕ_to-const n 1)

pub listed-at : {A : Type 0} → (n : ℕ) (f : ℕ → A) (k : ℕ) (d : A) → k < n → get_or (listed n f) k d ≡ f k
listed-at n f k d l =
    let first : before (λ k. f k ∷ []) k + 0 ≡ k = omega (arith, sum_ℕ_to-const k 1) in
    ap (λ (m : ℕ). get_or (listed n f) m d) (sym first) ∙ joined-at n (λ k. f k ∷ []) k 0 d l (omega arith)

pub listed-more : {A : Type 0} → (xs : List A) (x : A) (n : ℕ) (f : ℕ → A) → xs ≡ listed n f → x ≡ f n → xs ++ x ∷ [] ≡ listed (n + 1) f
listed-more xs x n f e h = ap (λ ys. ys ++ x ∷ []) e ∙ ap (λ y. listed n f ++ y ∷ []) h ∙ sym (joined-more n (λ k. f k ∷ []))

-- ---- loops that add part after part
pub joined-start : {A : Type 0} → (xs : List A) (f : ℕ → List A) → xs ≡ [] → xs ≡ joined 0 f
joined-start xs f e = e ∙ sym (joined-none f)

pub joined-grow : {A : Type 0} → (now new : List A) (n : ℕ) (f : ℕ → List A) → now ≡ joined n f → new ≡ now ++ f n → new ≡ joined (n + 1) f
joined-grow now new n f h e = e ∙ ap (λ xs. xs ++ f n) h ∙ sym (joined-more n f)
