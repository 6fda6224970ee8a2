-- Sums of products of naturals.
use Rattle.std.proofs.Common.{◌≡◌, ℕ, zero, suc, ◌+◌, ◌-◌, ◌*◌, ◌<◌, ◌≤◌, max, refl, sym, ap, ◌∙◌, subst, arith, mul-le-mul_right, inl, inr}
use Rattle.std.proofs.lemmas.Bool.{cases_lt, cases_eq}
use Rattle.fx_whole.specs.Sums.{sum_ℕ_to}
use Rattle.fx_whole.proofs.SumLaws.{sum_ℕ_to-ext, sum_ℕ_to-add, sum_ℕ_to-scale_left, sum_ℕ_to-scale_right, sum_ℕ_to-mono}

pub sum_ℕ_to-zero : (n : ℕ) → sum_ℕ_to n (λ k. 0) ≡ 0
sum_ℕ_to-zero zero = refl
sum_ℕ_to-zero (suc n) = omega (arith, sum_ℕ_to-zero n)

pub sum_ℕ_to-swap : (m n : ℕ) (f : ℕ → ℕ → ℕ) → sum_ℕ_to m (λ i. sum_ℕ_to n (λ j. f i j)) ≡ sum_ℕ_to n (λ j. sum_ℕ_to m (λ i. f i j))
sum_ℕ_to-swap zero n f = sym (sum_ℕ_to-zero n)
sum_ℕ_to-swap (suc m) n f =
    ap (λ (x : ℕ). x + sum_ℕ_to n (λ j. f m j)) (sum_ℕ_to-swap m n f) ∙ sym (sum_ℕ_to-add n (λ j. sum_ℕ_to m (λ i. f i j)) (λ j. f m j))

-- ---- twice a product is at most two squares
twice_from : (a x e : ℕ) → 2 * (a * (x * (x + e))) ≤ a * (x * x) + a * ((x + e) * (x + e))
twice_from a x e = omega arith

twice_ordered : (a x y : ℕ) → x ≤ y → 2 * (a * (x * y)) ≤ a * (x * x) + a * (y * y)
twice_ordered a x y h =
    let e : x + (y - x) ≡ y = omega arith in
    subst (λ (z : ℕ). 2 * (a * (x * z)) ≤ a * (x * x) + a * (z * z)) e (twice_from a x (y - x))

pub twice : (a x y : ℕ) → 2 * (a * (x * y)) ≤ a * (x * x) + a * (y * y)
twice a x y = elim (cases_lt x y) [
  | inl h ↦ twice_ordered a x y (omega arith)
  | inr h ↦ omega (arith, twice_ordered a y x h)
]

twice_sum : (n : ℕ) (f g h : ℕ → ℕ) → ((k : ℕ) → k < n → 2 * f k ≤ g k + h k) → 2 * sum_ℕ_to n f ≤ sum_ℕ_to n g + sum_ℕ_to n h
twice_sum zero f g h p = omega arith
twice_sum (suc n) f g h p = omega (arith, twice_sum n f g h (λ k q. p k (omega arith)), p n (omega arith))

-- ---- a form of naturals, by its rows
module _ (n g : ℕ) (z : ℕ → ℕ) where
  rows_weigh : (b : ℕ → ℕ → ℕ) → ((i : ℕ) → i < n → sum_ℕ_to n (b i) ≤ g)
      → sum_ℕ_to n (λ i. sum_ℕ_to n (λ j. b i j * (z i * z i))) ≤ g * sum_ℕ_to n (λ i. z i * z i)
  rows_weigh b h =
      omega (
        arith,
        sum_ℕ_to-mono n (λ i. sum_ℕ_to n (λ j. b i j * (z i * z i))) (λ i. g * (z i * z i))
            (λ i p. omega (arith, sum_ℕ_to-scale_right n (b i) (z i * z i), mul-le-mul_right (z i * z i) (h i p))),
        sum_ℕ_to-scale_left n g (λ i. z i * z i),
      )

  pub form_weighs : (a : ℕ → ℕ → ℕ) → ((i j : ℕ) → i < n → j < n → a i j ≡ a j i) → ((i : ℕ) → i < n → sum_ℕ_to n (a i) ≤ g)
      → sum_ℕ_to n (λ i. sum_ℕ_to n (λ j. a i j * (z i * z j))) ≤ g * sum_ℕ_to n (λ i. z i * z i)
  form_weighs a same h =
      omega (
        arith,
        twice_sum n (λ i. sum_ℕ_to n (λ j. a i j * (z i * z j))) (λ i. sum_ℕ_to n (λ j. a i j * (z i * z i))) (λ i. sum_ℕ_to n (λ j. a i j * (z j * z j)))
            (λ i p. twice_sum n (λ j. a i j * (z i * z j)) (λ j. a i j * (z i * z i)) (λ j. a i j * (z j * z j)) (λ j q. twice (a i j) (z i) (z j))),
        rows_weigh a h,
        sum_ℕ_to-swap n n (λ i j. a i j * (z j * z j)),
        rows_weigh (λ j i. a i j) (λ j p. omega (arith, h j p, sum_ℕ_to-ext n (λ i. a i j) (a j) (λ i q. same i j q p))),
      )

-- ---- the largest of some numbers
abbrev pub largest : ℕ → (ℕ → ℕ) → ℕ
largest zero z = 0
largest (suc n) z = max (largest n z) (z n)

larger : (a b s : ℕ) → a * a ≤ s → max a b * max a b ≤ s + b * b
larger a b s h = elim (cases_lt a b) [
  | inl p ↦ (let e : max a b ≡ b = omega arith in rw e (omega arith))
  | inr p ↦ (let e : max a b ≡ a = omega arith in rw e (omega arith))
]

pub largest_square : (n : ℕ) (z : ℕ → ℕ) → largest n z * largest n z ≤ sum_ℕ_to n (λ i. z i * z i)
largest_square zero z = omega arith
largest_square (suc n) z = larger (largest n z) (z n) (sum_ℕ_to n (λ i. z i * z i)) (largest_square n z)

pub below_largest : (n i : ℕ) (z : ℕ → ℕ) → i < n → z i ≤ largest n z
below_largest zero i z h = absurd (omega arith)
below_largest (suc n) i z h = elim (cases_eq i n) [ inl e ↦ rw e (omega arith) | inr e ↦ omega (arith, below_largest n i z (omega arith)) ]

pub products_below : (n : ℕ) (z t : ℕ → ℕ) → sum_ℕ_to n (λ i. z i * t i) ≤ largest n z * sum_ℕ_to n t
products_below n z t =
    omega (
      arith,
      sum_ℕ_to-mono n (λ i. z i * t i) (λ i. largest n z * t i) (λ i p. mul-le-mul_right (t i) (below_largest n i z p)),
      sum_ℕ_to-scale_left n (largest n z) t,
    )

-- ---- from a bound by the largest to one by q
pub square_below : (g q y : ℕ) → g * g ≤ y → y ≤ g * q → y ≤ q * q
square_below g q y h k = elim (cases_lt q g) [
  | inl p ↦ (let e : q + (g - q) ≡ g = omega arith in let s : g * (q + (g - q)) ≤ g * q = omega (arith, ap (λ (x : ℕ). g * x) e) in absurd (beyond g q (g - q) e (omega arith) s))
  | inr p ↦ omega (arith, mul-le-mul_right q p)
]
  where
    beyond : (g q e : ℕ) → q + e ≡ g → 0 < e → g * (q + e) ≤ g * q → ⊥
    beyond g q zero h p k = absurd (omega arith)
    beyond g q (suc e) h p k = omega (arith, h, k)
