-- A list that is written place after place from a base on.
use Rattle.std.proofs.Common.{◌≡◌, ◌≢◌, ℕ, ◌+◌, ◌<◌, List, slice_index_or, sym, subst, arith, inl, inr}
use Rattle.std.proofs.lemmas.Bool.{cases_eq}

-- after x was put at base + i: what holds of each entry from the base on holds of one entry more
pub put_from : {A : Type 0} → (P : ℕ → A → Type 0) (d : A) (old new : List A) (base i : ℕ) (x : A) → slice_index_or new (base + i) d ≡ x
    → ((j : ℕ) → j ≢ base + i → slice_index_or new j d ≡ slice_index_or old j d) → P i x
    → ((k : ℕ) → k < i → P k (slice_index_or old (base + k) d)) → (k : ℕ) → k < i + 1 → P k (slice_index_or new (base + k) d)
put_from P d old new base i x same other holds before k h =
    elim (cases_eq k i) [
      | inl e ↦ subst (λ (j : ℕ). P j (slice_index_or new (base + j) d)) (sym e) (subst (P i) (sym same) holds)
      | inr e ↦ subst (P k) (sym (other (base + k) (λ q. e (omega (arith, q))))) (before k (omega arith))
    ]
