-- A symmetric matrix that is written column after column, each with its mirror image.
use Rattle.std.proofs.Common.{◌≡◌, ◌≢◌, ℕ, suc, ◌+◌, ◌*◌, ◌<◌, ◌≤◌, Bool, true, cond, List, slice_index_or, sym, ap, ◌∙◌, subst, arith, inl, inr, mul-le-mul_right}
use Rattle.std.proofs.lemmas.Bool.{cases_eq, cases_lt, cases_Bool, both_ways, cond-true, cond-false, false_from_ne_true}
use Rattle.fx_num.specs.declared.number.Number.{Number}
use Rattle.mj_types.specs.Masses.{no_near}
use Rattle.mj_inertia.specs.MassEntries.{mirrored}
use Rattle.mj_inertia.specs.Written.{near_at, WritesBoth, WritesTo, HasEntries}

-- ---- places
place_before : (n a b i j : ℕ) → b < n → a < i → a * n + b < i * n + j
place_before n a b i j h l = let below : suc a * n ≤ i * n = mul-le-mul_right n l in omega arith

place_apart : (n a b i j : ℕ) → b < n → j < n → (a ≡ i → b ≡ j → ⊥) → a * n + b ≢ i * n + j
place_apart n a b i j h k apart e =
    elim (cases_lt a i) [
      | inl l ↦ absurd (omega (arith, place_before n a b i j h l))
      | inr l ↦ elim (cases_lt i a) [
        | inl r ↦ absurd (omega (arith, place_before n i j a b k r))
        | inr r ↦ (let same : a ≡ i = omega arith in apart same (one same))
      ]
    ]
  where
    one : a ≡ i → b ≡ j
    one same = let rows : a * n ≡ i * n = ap (λ (x : ℕ). x * n) same in omega arith

-- two writes, one the other's mirror image
pub writes_both : (n i j : ℕ) (x : Number ℕ 40) (old mid new : List (Number ℕ 40)) → i ≤ j → j < n
    → slice_index_or mid (i * n + j) no_near ≡ x → ((k : ℕ) → k ≢ i * n + j → slice_index_or mid k no_near ≡ slice_index_or old k no_near)
    → slice_index_or new (j * n + i) no_near ≡ x → ((k : ℕ) → k ≢ j * n + i → slice_index_or new k no_near ≡ slice_index_or mid k no_near)
    → WritesBoth n i j x old new
writes_both n i j x old mid new l h same others same' others' = record {
  upper = elim (cases_eq (i * n + j) (j * n + i)) [
    | inl e ↦ ap (λ (p : ℕ). slice_index_or new p no_near) e ∙ same'
    | inr e ↦ others' (i * n + j) e ∙ same
  ];
  lower = same';
  before_upper = λ a b p q. kept a b (omega arith) (λ e f. omega arith) (λ e f. omega arith);
  before_lower = λ a b p q. kept b a (omega arith) (λ e f. omega arith) (λ e f. omega arith);
  here_upper = λ a p. kept a j h (λ e f. omega arith) (λ e f. omega arith);
  here_lower = λ a p. kept j a (omega arith) (λ e f. omega arith) (λ e f. omega arith);
}
  where
    kept : (a b : ℕ) → b < n → (a ≡ i → b ≡ j → ⊥) → (a ≡ j → b ≡ i → ⊥) → near_at n new a b ≡ near_at n old a b
    kept a b r p q =
        others' (a * n + b) (place_apart n a b j i r (omega arith) q) ∙ others (a * n + b) (place_apart n a b i j r h p)

pub writes_more : (n j i : ℕ) (f : ℕ → Number ℕ 40) (x : Number ℕ 40) (old mid new : List (Number ℕ 40))
    → WritesTo n j i f old mid → x ≡ f i → WritesBoth n i j x mid new → WritesTo n j (i + 1) f old new
writes_more n j i f x old mid new w e b = record {
  upper = λ a h. elim (cases_lt a i) [
    | inl l ↦ b.here_upper a l ∙ w.upper a l
    | inr l ↦ (let same : i ≡ a = omega arith in subst (λ (k : ℕ). near_at n new k j ≡ f k) same (b.upper ∙ e))
  ];
  lower = λ a h. elim (cases_lt a i) [
    | inl l ↦ b.here_lower a l ∙ w.lower a l
    | inr l ↦ (let same : i ≡ a = omega arith in subst (λ (k : ℕ). near_at n new j k ≡ f k) same (b.lower ∙ e))
  ];
  before_upper = λ a c p q. b.before_upper a c p q ∙ w.before_upper a c p q;
  before_lower = λ a c p q. b.before_lower a c p q ∙ w.before_lower a c p q;
}

pub entries_more : (n j : ℕ) (f : ℕ → ℕ → Number ℕ 40) (old new : List (Number ℕ 40))
    → HasEntries n j f old → WritesTo n j (j + 1) (λ i. f i j) old new → HasEntries n (j + 1) f new
entries_more n j f old new h w = record {
  upper = λ a b p q. elim (cases_lt b j) [
    | inl l ↦ w.before_upper a b p l ∙ h.upper a b p l
    | inr l ↦ (let same : j ≡ b = omega arith in subst (λ (k : ℕ). near_at n new a k ≡ f a k) same (w.upper a (omega arith)))
  ];
  lower = λ a b p q. elim (cases_lt b j) [
    | inl l ↦ w.before_lower a b p l ∙ h.lower a b p l
    | inr l ↦ (let same : j ≡ b = omega arith in subst (λ (k : ℕ). near_at n new k a ≡ f a k) same (w.lower a (omega arith)))
  ];
}

-- ---- a function and its mirror image
module _ {A : Type 0} (joins : ℕ → ℕ → Bool) (itself : (i : ℕ) → joins i i ≡ true) (order : (i j : ℕ) → joins i j ≡ true → i ≤ j) (none : A) (f : ℕ → ℕ → A) where
  pub mirrored-upper : (i j : ℕ) → i ≤ j → mirrored joins none f i j ≡ cond (joins i j) (f i j) none
  mirrored-upper i j h =
      elim (cases_Bool (joins i j)) [
        | inl t ↦ cond-true (joins i j) (f i j) _ t ∙ sym (cond-true (joins i j) (f i j) none t)
        | inr t ↦
            cond-false (joins i j) (f i j) _ t ∙ cond-false (joins j i) (f j i) none (false_from_ne_true (joins j i) (λ q. both_ways (joins i j) t (turned q)))
            ∙ sym (cond-false (joins i j) (f i j) none t)
      ]
    where
      turned : joins j i ≡ true → joins i j ≡ true
      turned q = let same : i ≡ j = omega (arith, order j i q) in subst (λ (k : ℕ). joins i k ≡ true) same (itself i)

  pub mirrored-lower : (i j : ℕ) → i ≤ j → mirrored joins none f j i ≡ cond (joins i j) (f i j) none
  mirrored-lower i j h =
      elim (cases_eq i j) [
        | inl e ↦ subst (λ (k : ℕ). mirrored joins none f k i ≡ cond (joins i k) (f i k) none) e (mirrored-upper i i (omega arith))
        | inr e ↦ cond-false (joins j i) (f j i) _ (false_from_ne_true (joins j i) (λ q. omega (arith, order j i q)))
      ]
