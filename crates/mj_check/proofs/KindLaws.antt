-- Laws of the names of kinds.
use Rattle.std.proofs.Common.{◌≡◌, ◌∙◌, ℕ, suc, ◌+◌, ◌<◌, Bool, true, false, List, ◌∷◌, length, drop, get_or, Some, find, sym, ap, refl, add-one}
use Rattle.std.proofs.Math.Seq.{drop-cons}

module _ {A : Type 0} (p : A → Bool) (d : A) where
  found-here : (x : A) (xs : List A) → true ≡ p x → find p (x ∷ xs) ≡ Some x
  found-here x xs e = rw (sym e) refl

  found-later : (x : A) (xs : List A) → false ≡ p x → find p (x ∷ xs) ≡ find p xs
  found-later x xs e = rw (sym e) refl

  -- an element of a list is the first of those that are left for which a test holds, or it isn't
  pub found-at : (xs : List A) (i : ℕ) → i < length xs → true ≡ p (get_or xs i d) → find p (drop i xs) ≡ Some (get_or xs i d)
  found-at xs i l e = ap (find p) (drop-cons xs i d l) ∙ found-here (get_or xs i d) (drop (suc i) xs) e

  pub found-past : (xs : List A) (i : ℕ) → i < length xs → false ≡ p (get_or xs i d) → find p (drop i xs) ≡ find p (drop (i + 1) xs)
  found-past xs i l e = ap (find p) (drop-cons xs i d l) ∙ found-later (get_or xs i d) (drop (suc i) xs) e ∙ ap (λ (k : ℕ). find p (drop k xs)) (sym (add-one i))
