-- What an accepted list says of its items.
use Rattle.std.proofs.Common.{◌≡◌, ℕ, zero, suc, ◌+◌, ◌<◌, List, [], ◌∷◌, length, get_or, Ok, sym, ap, ◌∙◌, arith}
use Rattle.mj_form.specs.Reading.{Read, ◌>>=◌, place}
use Rattle.mj_walk.specs.Walks.{item, each}
use Rattle.mj_valid.proofs.Chains.{chain, ok-same, under-ok}
use Rattle.std.specs.Prelude.{codes, ◌++◌}

module _ {A B : Type 0} (f : ℕ → A → Read B) where
  pub each-length : (i : ℕ) (xs : List A) (ys : List B) → each f i xs ≡ Ok ys → length ys ≡ length xs
  each-length i [] ys h = let e : [] ≡ ys = ok-same [] ys h in ap length (sym e)
  each-length i (x ∷ xs) ys h =
      chain (f i x) (λ y. each f (suc i) xs >>= (λ zs. Ok (y ∷ zs))) ys h (λ y y-is h1.
      chain (each f (suc i) xs) (λ zs. Ok (y ∷ zs)) ys h1 (λ zs zs-is h2.
      (let e : y ∷ zs ≡ ys = ok-same (y ∷ zs) ys h2 in ap length (sym e) ∙ ap suc (each-length (suc i) xs zs zs-is))))

  pub each-is : (i : ℕ) (xs : List A) (ys : List B) → each f i xs ≡ Ok ys → (k : ℕ) (d : A) (e : B) → k < length xs → f (i + k) (get_or xs k d) ≡ Ok (get_or ys k e)
  each-is i [] ys h k d e l = absurd (omega arith)
  each-is i (x ∷ xs) ys h zero d e l =
      chain (f i x) (λ y. each f (suc i) xs >>= (λ zs. Ok (y ∷ zs))) ys h (λ y y-is h1.
      chain (each f (suc i) xs) (λ zs. Ok (y ∷ zs)) ys h1 (λ zs zs-is h2.
      (let q : y ∷ zs ≡ ys = ok-same (y ∷ zs) ys h2 in
      let n : i + zero ≡ i = omega arith in
      ap (λ (m : ℕ). f m x) n ∙ y-is ∙ ap (λ ws. Ok (get_or ws zero e)) q)))
  each-is i (x ∷ xs) ys h (suc k) d e l =
      chain (f i x) (λ y. each f (suc i) xs >>= (λ zs. Ok (y ∷ zs))) ys h (λ y y-is h1.
      chain (each f (suc i) xs) (λ zs. Ok (y ∷ zs)) ys h1 (λ zs zs-is h2.
      (let q : y ∷ zs ≡ ys = ok-same (y ∷ zs) ys h2 in
      let n : i + suc k ≡ suc i + k = omega arith in
      ap (λ (m : ℕ). f m (get_or xs k d)) n ∙ each-is (suc i) xs zs zs-is k d e (omega arith) ∙ ap (λ ws. Ok (get_or ws (suc k) e)) q)))

  -- item k comes of some item
  pub record Comes (k : ℕ) (y : B) : Type 0 where
    pub from : A
    pub is : f k from ≡ Ok y

  pub each-some : (xs : List A) (ys : List B) → each f 0 xs ≡ Ok ys → (k : ℕ) (e : B) → k < length ys → Comes k (get_or ys k e)
  each-some [] ys h k e l = absurd (omega (arith, l, each-length 0 [] ys h))
  each-some (x ∷ xs) ys h k e l =
      let n : 0 + k ≡ k = omega arith in
      record { from = get_or (x ∷ xs) k x; is = ap (λ (m : ℕ). f m (get_or (x ∷ xs) k x)) (sym n) ∙ each-is 0 (x ∷ xs) ys h k x e (omega (arith, l, each-length 0 (x ∷ xs) ys h)) }

pub item-ok : {A : Type 0} (key : List ℕ) (i : ℕ) (r : Read A) (x : A) → item key i r ≡ Ok x → r ≡ Ok x
item-ok key i r x h = under-ok (place key (i + 1) ++ codes ".") r x h
