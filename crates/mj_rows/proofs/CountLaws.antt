-- How many rows stand, part after part.
use Rattle.std.proofs.Common.{◌≡◌, ℕ, zero, suc, ◌+◌, ◌≤◌, Bool, true, false, cond, List, [], ◌∷◌, ◌++◌, length, refl, sym, ap, ap₂, ◌∙◌, arith, length-append}
use Rattle.fx_whole.specs.Joined.{joined}
use Rattle.fx_whole.proofs.JoinedLaws.{joined-none, joined-more}

pub one_or_none : {A : Type 0} → (b : Bool) (x : A) → length (cond b (x ∷ []) []) ≡ cond {A = ℕ} b 1 0
one_or_none true x = refl
one_or_none false x = refl

pub at_most_one : (b : Bool) → cond {A = ℕ} b 1 0 ≤ 1
at_most_one true = omega arith
at_most_one false = omega arith

pub count_none : {A : Type 0} → (f : ℕ → List A) → 0 ≡ length (joined 0 f)
count_none f = sym (ap length (joined-none f))

pub count_more : {A : Type 0} → (n count more : ℕ) (f : ℕ → List A) → count ≡ length (joined n f) → more ≡ length (f n) → count + more ≡ length (joined (n + 1) f)
count_more n count more f e g =
    ap₂ (λ (x y : ℕ). x + y) e g ∙ sym (length-append (joined n f) (f n)) ∙ sym (ap length (joined-more n f))

pub count_both : {A : Type 0} → (b c : Bool) (x y : A) (p q : ℕ) → p ≡ cond b 1 0 → q ≡ cond c 1 0 → p + q ≡ length (cond b (x ∷ []) [] ++ cond c (y ∷ []) [])
count_both b c x y p q e f =
    ap₂ (λ (u v : ℕ). u + v) (e ∙ sym (one_or_none b x)) (f ∙ sym (one_or_none c y)) ∙ sym (length-append (cond b (x ∷ []) []) (cond c (y ∷ []) []))

-- one in each part
pub count_ones : {A : Type 0} → (n : ℕ) (g : ℕ → A) → length (joined n (λ i. g i ∷ [])) ≡ n
unfolding joined
count_ones zero g = refl
count_ones (suc n) g = length-append (joined n (λ i. g i ∷ [])) (g n ∷ []) ∙ ap (λ (k : ℕ). k + 1) (count_ones n g) ∙ omega arith
