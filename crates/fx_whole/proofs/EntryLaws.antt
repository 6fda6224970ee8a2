-- The laws of `below`, and of lists that are written entry by entry.
use Rattle.std.proofs.Common.{◌≡◌, ◌≢◌, ℕ, ◌+◌, ◌<◌, ◌≤◌, List, length, slice_index_or, nat_lt, sym, ap, ◌∙◌, subst, arith, inl, inr}
use Rattle.std.proofs.lemmas.Bool.{cases_eq, cases_lt, cond-true, cond-false, lt-ltb, le-ltb}
use Rattle.std.proofs.lemmas.List.{get_or_past}
use Rattle.std.proofs.Math.Path.{fun_ext}
use Rattle.fx_whole.specs.Entries.{below}

pub below-within : {A : Type 0} → (none : A) (n : ℕ) (f : ℕ → A) (k : ℕ) → k < n → below none n f k ≡ f k
below-within none n f k h = cond-true (nat_lt k n) (f k) none (lt-ltb k n h)

pub below-past : {A : Type 0} → (none : A) (n : ℕ) (f : ℕ → A) (k : ℕ) → n ≤ k → below none n f k ≡ none
below-past none n f k h = cond-false (nat_lt k n) (f k) none (le-ltb k n h)

-- a list of n entries that holds f below n
pub below-is : {A B : Type 0} → (read : A → B) (d : A) (xs : List A) (n : ℕ) (f : ℕ → B) → length xs ≡ n
    → ((k : ℕ) → k < n → read (slice_index_or xs k d) ≡ f k) → (λ k. read (slice_index_or xs k d)) ≡ below (read d) n f
below-is read d xs n f e h = fun_ext each
  where
    each : (k : ℕ) → read (slice_index_or xs k d) ≡ below (read d) n f k
    each k = elim (cases_lt k n) [
      | inl p ↦ h k p ∙ sym (below-within (read d) n f k p)
      | inr p ↦ ap read (get_or_past xs k d (omega arith)) ∙ sym (below-past (read d) n f k p)
    ]

-- after x was put at i: what holds of each entry below i holds below i + 1
pub put-keeps : {A : Type 0} → (P : ℕ → A → Type 0) (d : A) (old new : List A) (i : ℕ) (x : A) → slice_index_or new i d ≡ x
    → ((j : ℕ) → j ≢ i → slice_index_or new j d ≡ slice_index_or old j d) → P i x
    → ((k : ℕ) → k < i → P k (slice_index_or old k d)) → (k : ℕ) → k < i + 1 → P k (slice_index_or new k d)
put-keeps P d old new i x same other holds before k h =
    elim (cases_eq k i) [
      | inl e ↦ subst (λ (j : ℕ). P j (slice_index_or new j d)) (sym e) (subst (P i) (sym same) holds)
      | inr e ↦ subst (P k) (sym (other k e)) (before k (omega arith))
    ]

pub put-more : {A B : Type 0} → (read : A → B) (d : A) (f : ℕ → B) (old new : List A) (i : ℕ) (x : A) → slice_index_or new i d ≡ x
    → ((j : ℕ) → j ≢ i → slice_index_or new j d ≡ slice_index_or old j d) → read x ≡ f i
    → ((k : ℕ) → k < i → read (slice_index_or old k d) ≡ f k) → (k : ℕ) → k < i + 1 → read (slice_index_or new k d) ≡ f k
put-more read d f = put-keeps (λ k a. read a ≡ f k) d
