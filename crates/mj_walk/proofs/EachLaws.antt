-- The walk of a list, item after item.
use Rattle.std.proofs.Common.{◌≡◌, ℕ, suc, ◌+◌, ◌<◌, List, [], ◌∷◌, ◌++◌, length, get_or, drop, Ok, Err, refl, sym, ap, ◌∙◌, add-one, append_assoc}
use Rattle.std.proofs.Math.Seq.{drop-cons}
use Rattle.mj_form.specs.Reading.{Read, ◌>>=◌}
use Rattle.mj_form.proofs.Lists.{after}
use Rattle.mj_walk.specs.Walks.{each}

module _ {A B : Type 0} (f : ℕ → A → Read B) where
  cons_after : (found : List B) (y : B) (rest : Read (List B)) → after found (rest >>= (λ ys. Ok (y ∷ ys))) ≡ after (found ++ y ∷ []) rest
  cons_after found y (Ok ys) = ap (λ xs. Ok xs) (sym (append_assoc found (y ∷ []) ys))
  cons_after found y (Err fault) = refl

  one_more : (found : List B) (x : A) (y : B) (i : ℕ) (rest : List A) → f i x ≡ Ok y → after found (each f i (x ∷ rest)) ≡ after (found ++ y ∷ []) (each f (suc i) rest)
  one_more found x y i rest e = rw e (cons_after found y (each f (suc i) rest))

  -- item i is judged
  pub each-more : (found new : List B) (x : A) (y : B) (i : ℕ) (xs : List A) (whole : Read (List B)) → after found (each f i (drop i xs)) ≡ whole
      → i < length xs → x ≡ get_or xs i x → f i x ≡ Ok y → new ≡ found ++ y ∷ [] → after new (each f (i + 1) (drop (i + 1) xs)) ≡ whole
  each-more found new x y i xs whole so_far h at judged pushed =
      ap (λ ys. after ys (each f (i + 1) (drop (i + 1) xs))) pushed
      ∙ ap (λ (k : ℕ). after (found ++ y ∷ []) (each f k (drop k xs))) (add-one i)
      ∙ sym (one_more found x y i (drop (suc i) xs) judged)
      ∙ ap (λ ys. after found (each f i ys)) (sym (drop-cons xs i x h ∙ ap (λ z. z ∷ drop (suc i) xs) (sym at)))
      ∙ so_far
