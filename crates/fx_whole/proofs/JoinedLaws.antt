-- The laws of `joined`. A loop that adds the part f i to a list holds `start ++ joined i f` after i turns.
use Rattle.std.proofs.Common.{◌≡◌, ℕ, zero, suc, ◌+◌, ◌<◌, ◌≤◌, List, [], ◌++◌, length, refl, sym, ap, ap₂, ◌∙◌, arith, add-one, add-zero, add-suc, append_assoc, append-nil, length-append}
use Rattle.std.specs.List.{All}
use Rattle.std.proofs.lemmas.List.Elements.{All-nil, All-append}
use Rattle.fx_whole.specs.Joined.{joined}
use Rattle.fx_whole.specs.Sums.{sum_ℕ_to}
use Rattle.fx_whole.proofs.SumLaws.{sum_ℕ_to-le}

pub joined-none : {A : Type 0} → (f : ℕ → List A) → joined 0 f ≡ []
unfolding joined
joined-none f = refl

-- one more part
pub joined-more : {A : Type 0} → (n : ℕ) (f : ℕ → List A) → joined (n + 1) f ≡ joined n f ++ f n
unfolding joined
joined-more n f = ap (λ (k : ℕ). joined k f) (add-one n)

pub joined-ext : {A : Type 0} → (n : ℕ) (f g : ℕ → List A) → ((k : ℕ) → k < n → f k ≡ g k) → joined n f ≡ joined n g
unfolding joined
joined-ext zero f g h = refl
joined-ext (suc n) f g h = ap₂ (λ x y. x ++ y) (joined-ext n f g (λ k p. h k (omega arith))) (h n (omega arith))

pub joined-length : {A : Type 0} → (n : ℕ) (f : ℕ → List A) → length (joined n f) ≡ sum_ℕ_to n (λ k. length (f k))
unfolding joined
joined-length zero f = refl
joined-length (suc n) f = length-append (joined n f) (f n) ∙ ap (λ (x : ℕ). x + length (f n)) (joined-length n f)

-- what is too many stays too many
pub joined-within : {A : Type 0} → (m n : ℕ) (f : ℕ → List A) → m ≤ n → length (joined m f) ≤ length (joined n f)
joined-within m n f h = omega (arith, joined-length m f, joined-length n f, sum_ℕ_to-le m n (λ k. length (f k)) h)

-- the first m parts, and the n after them
pub joined-split : {A : Type 0} → (m n : ℕ) (f : ℕ → List A) → joined (m + n) f ≡ joined m f ++ joined n (λ k. f (m + k))
unfolding joined
joined-split m zero f = ap (λ (k : ℕ). joined k f) (add-zero m) ∙ sym (append-nil (joined m f))
joined-split m (suc n) f =
    ap (λ (k : ℕ). joined k f) (add-suc m n) ∙ ap (λ x. x ++ f (m + n)) (joined-split m n f)
    ∙ append_assoc (joined m f) (joined n (λ k. f (m + k))) (f (m + n))

-- each part is empty
pub joined-empty : {A : Type 0} → (n : ℕ) (f : ℕ → List A) → ((k : ℕ) → k < n → f k ≡ []) → joined n f ≡ []
unfolding joined
joined-empty zero f h = refl
joined-empty (suc n) f h = ap₂ (λ x y. x ++ y) (joined-empty n f (λ k p. h k (omega arith))) (h n (omega arith))

-- what each part passes on
pub joined-holds : {A : Type 0} → (P : List A → Type 0) (n : ℕ) (f : ℕ → List A) → P [] → ((k : ℕ) (xs : List A) → k < n → P xs → P (xs ++ f k)) → P (joined n f)
unfolding joined
joined-holds P zero f h s = h
joined-holds P (suc n) f h s = s n (joined n f) (omega arith) (joined-holds P n f h (λ k xs p. s k xs (omega arith)))

pub joined-all : {A : Type 0} → (P : A → Type 0) (n : ℕ) (f : ℕ → List A) → ((k : ℕ) → k < n → All P (f k)) → All P (joined n f)
joined-all P n f h = joined-holds (All P) n f (All-nil P) (λ k xs p a. All-append P xs (f k) a (h k p))

-- ---- the loop: at its start, and after one more turn
pub grow-none : {A : Type 0} → (start : List A) (f : ℕ → List A) → start ≡ start ++ joined 0 f
grow-none start f = sym (ap (λ x. start ++ x) (joined-none f) ∙ append-nil start)

pub grow-more : {A : Type 0} → (start now new : List A) (i : ℕ) (f : ℕ → List A) → now ≡ start ++ joined i f → new ≡ now ++ f i → new ≡ start ++ joined (i + 1) f
grow-more start now new i f h e =
    e ∙ ap (λ x. x ++ f i) h ∙ append_assoc start (joined i f) (f i) ∙ ap (λ x. start ++ x) (sym (joined-more i f))
