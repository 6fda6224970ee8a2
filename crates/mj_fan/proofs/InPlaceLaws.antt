-- Lists that are changed place by place.
use Rattle.std.proofs.Common.{◌≡◌, ◌≤◌, ◌<◌, ◌++◌, ◌∷◌, [], ℕ, suc, List, length, map, flat_map, slice_index_or, ap₂, refl, arith}
use Rattle.mj_fan.specs.InPlace.{InPlace}

-- the items below n have been changed, the others are as they were
pub record InPlaceTo {A : Type 0} (R : A → A → Type 0) (n : ℕ) (old new : List A) : Type 0 where
  pub many : length new ≡ length old
  pub each : (k : ℕ) (d : A) → k < n → R (slice_index_or old k d) (slice_index_or new k d)
  pub rest : (k : ℕ) (d : A) → n ≤ k → slice_index_or new k d ≡ slice_index_or old k d

later : {A : Type 0} {R : A → A → Type 0} {x y : A} {xs ys : List A} → InPlace R (x ∷ xs) (y ∷ ys) → InPlace R xs ys
later p = record { many = omega (arith, p.many); each = λ k d low. p.each (suc k) d (omega (arith, low)) }

-- what each item gives, as a list
pub mapped : {A B : Type 0} (R : A → A → Type 0) (f g : A → B) (xs ys : List A)
    → ((x y : A) → R x y → f y ≡ g x) → InPlace R xs ys → map f ys ≡ map g xs
mapped R f g [] [] same p = refl
mapped R f g (x ∷ xs) [] same p = absurd (omega (arith, p.many))
mapped R f g [] (y ∷ ys) same p = absurd (omega (arith, p.many))
mapped R f g (x ∷ xs) (y ∷ ys) same p =
    ap₂ (λ b bs. b ∷ bs) (same x y (p.each 0 x (omega arith))) (mapped R f g xs ys same (later p))

-- what each item gives, joined to one list
pub joined : {A B : Type 0} (R : A → A → Type 0) (f g : A → List B) (xs ys : List A)
    → ((x y : A) → R x y → f y ≡ g x) → InPlace R xs ys → flat_map f ys ≡ flat_map g xs
joined R f g [] [] same p = refl
joined R f g (x ∷ xs) [] same p = absurd (omega (arith, p.many))
joined R f g [] (y ∷ ys) same p = absurd (omega (arith, p.many))
joined R f g (x ∷ xs) (y ∷ ys) same p =
    ap₂ (λ b bs. b ++ bs) (same x y (p.each 0 x (omega arith))) (joined R f g xs ys same (later p))
