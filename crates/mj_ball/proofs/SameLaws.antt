-- What stands below n alone counts: of a matrix, of a factor that is stored, and of the factor of the definition.
use Rattle.std.proofs.Common.{◌≡◌, ℕ, ◌-◌, ◌^◌, ◌<◌, ◌==◌, nat_lt, cond, max, ℤ, pos, ◌-ℤ◌, ◌*ℤ◌, unsigned_abs, Some, None, option_map, refl, sym, ap, ap₂, ◌∙◌, arith, inl, inr}
use Rattle.std.proofs.lemmas.Bool.{cases_lt, le-ltb, ne_eqb, cond-false}
use Rattle.fx_whole.specs.First.{or_first}
use Rattle.fx_whole.specs.Sums.{when}
use Rattle.fx_whole.proofs.FirstLaws.{first_ext}
use Rattle.fx_whole.proofs.SumLaws.{sum_to-ext, sum_ℕ_to-ext, when-false}
use Rattle.mj_types.specs.declared.range.OutOfRange.{OutOfRange}
use Rattle.mj_factor.specs.Factors.{lower, pivot, factor_fault}
use Rattle.mj_factor.proofs.FactorLaws.{zero_left, zero_right}
use Rattle.mj_factor.proofs.ReadLaws.{Agree2, Agree, factor_fault-reads, pivot-reads, lower-reads, greatest-reads}
use Rattle.mj_quadratic.specs.Forms.{row_size, product}
use Rattle.mj_ball.specs.Shifts.{with_diagonal, too_large, error_at, error_fault, row_fault, largest_row, errors_fault, shifted, lower_at, least_part, unless_fault, at_least_one, low_at, missed, total_missed, ball_from, ball_at, greatest_ball, ball_of}

with_diagonal_same : (l l' : ℕ → ℕ → ℤ) (r i : ℕ) → (i < r → l r i ≡ l' r i) → with_diagonal l r i ≡ with_diagonal l' r i
with_diagonal_same l l' r i h = ap (λ x. cond (r == i) (pos (2 ^ 32)) x) (elim (cases_lt i r) [
  | inl p ↦ ap (when (nat_lt i r)) (h p)
  | inr p ↦ when-false (nat_lt i r) (l r i) (le-ltb i r p) ∙ sym (when-false (nat_lt i r) (l' r i) (le-ltb i r p))
])

-- L is 0 above its diagonal, and so are products of rows before a column
with_diagonal_before : (l : ℕ → ℕ → ℤ) (r i : ℕ) → r < i → with_diagonal l r i ≡ pos 0
with_diagonal_before l r i h =
    cond-false (r == i) (pos (2 ^ 32)) (when (nat_lt i r) (l r i)) (ne_eqb r i (λ e. omega (arith, e, h))) ∙ when-false (nat_lt i r) (l r i) (le-ltb i r (omega arith))

pub product_before : (d : ℕ → ℤ) (l : ℕ → ℕ → ℤ) (i j r : ℕ) → r < max i j → product d (with_diagonal l) i j r ≡ pos 0
product_before d l i j r h = elim (cases_lt r i) [
  | inl p ↦ zero_left (d r *ℤ with_diagonal l r i) (with_diagonal l r j) (zero_right (d r) (with_diagonal l r i) (with_diagonal_before l r i p))
  | inr p ↦ zero_right (d r *ℤ with_diagonal l r i) (with_diagonal l r j) (with_diagonal_before l r j (omega arith))
]

module _ (n : ℕ) (m m' : ℕ → ℕ → ℤ) (d d' : ℕ → ℤ) (l l' : ℕ → ℕ → ℤ) (same_m : Agree2 n m m') (same_d : Agree n d d') (same_l : (r i : ℕ) → r < n → l r i ≡ l' r i) where
  product_same : (i j r : ℕ) → r < n → product d l i j r ≡ product d' l' i j r
  product_same i j r p = ap₂ (λ x y. x *ℤ y) (ap₂ (λ x y. x *ℤ y) (same_d r p) (same_l r i p)) (same_l r j p)

  error_same : (i j : ℕ) → i < n → j < n → error_at n m d l i j ≡ error_at n m' d' l' i j
  error_same i j p q = ap₂ (λ x y. x *ℤ pos (2 ^ 64) -ℤ y) (same_m i j p q) (sum_to-ext n (product d l i j) (product d' l' i j) (product_same i j))

  error_fault_same : (i j : ℕ) → i < n → j < n → error_fault n m d l i j ≡ error_fault n m' d' l' i j
  error_fault_same i j p q =
      ap₂ (λ x y. or_first x y) (first_ext n (λ r. too_large (product d l i j r)) (λ r. too_large (product d' l' i j r)) (λ r h. ap too_large (product_same i j r h)))
      (ap too_large (error_same i j p q))

  errors_fault_same : errors_fault n m d l ≡ errors_fault n m' d' l'
  errors_fault_same = first_ext n (row_fault n m d l) (row_fault n m' d' l') (λ i p. first_ext n (error_fault n m d l i) (error_fault n m' d' l' i) (λ j q. error_fault_same i j p q))

  largest_row_same : largest_row n m d l ≡ largest_row n m' d' l'
  largest_row_same =
      greatest-reads n (row_size n (error_at n m d l)) (row_size n (error_at n m' d' l'))
      (λ i p. sum_ℕ_to-ext n (λ j. unsigned_abs (error_at n m d l i j)) (λ j. unsigned_abs (error_at n m' d' l' i j)) (λ j q. ap unsigned_abs (error_same i j p q)))

-- the least part by a factor that is stored
pub low_by : (n : ℕ) (m : ℕ → ℕ → ℤ) (k : ℕ) (d : ℕ → ℤ) (l : ℕ → ℕ → ℤ) → None ≡ factor_fault n (shifted k m)
    → ((r : ℕ) → r < n → d r ≡ pivot n (shifted k m) r) → ((r i : ℕ) → r < n → i < r → l r i ≡ lower n (shifted k m) r i)
    → low_at n m k
    ≡ unless_fault (errors_fault n (shifted k m) d (with_diagonal l)) (at_least_one (least_part k (largest_row n (shifted k m) d (with_diagonal l))))
unfolding low_at
low_by n m k d l none same_d same_l =
    let x = shifted k m in
    let entries = λ (r i : ℕ) (p : r < n). with_diagonal_same l (lower n x) r i (λ q. same_l r i p q) in
    ap (λ f. unless_fault f (unless_fault (errors_fault n x (pivot n x) (lower_at n k m)) (at_least_one (least_part k (largest_row n x (pivot n x) (lower_at n k m)))))) (sym none)
    ∙ sym (ap₂ (λ f (g : ℕ). unless_fault f (at_least_one (least_part k g)))
    (errors_fault_same n x x d (pivot n x) (with_diagonal l) (lower_at n k m) (λ i j p q. refl) same_d entries)
    (largest_row_same n x x d (pivot n x) (with_diagonal l) (lower_at n k m) (λ i j p q. refl) same_d entries))

-- there is none where the factor is refused
pub low_refused : (n : ℕ) (m : ℕ → ℕ → ℤ) (k : ℕ) (e : OutOfRange) → Some e ≡ factor_fault n (shifted k m) → None ≡ low_at n m k
unfolding low_at
low_refused n m k e h =
    let x = shifted k m in
    ap (λ f. unless_fault f (unless_fault (errors_fault n x (pivot n x) (lower_at n k m)) (at_least_one (least_part k (largest_row n x (pivot n x) (lower_at n k m)))))) h

-- ---- matrices that agree below n
module _ (n : ℕ) (f g : ℕ → ℕ → ℤ) (same : Agree2 n f g) where
  low-reads : (k : ℕ) → low_at n f k ≡ low_at n g k
  unfolding low_at
  low-reads k =
      let x = shifted k f in
      let y = shifted k g in
      let agree : Agree2 n x y = λ i j p q. ap (λ z. z -ℤ when (i == j) (pos (2 ^ k))) (same i j p q) in
      let pivots : Agree n (pivot n x) (pivot n y) = λ r p. pivot-reads n x y agree r p in
      let entries = λ (r i : ℕ) (p : r < n). with_diagonal_same (lower n x) (lower n y) r i (λ q. lower-reads n x y agree r i p (omega arith)) in
      ap (λ e. unless_fault e (unless_fault (errors_fault n x (pivot n x) (lower_at n k f)) (at_least_one (least_part k (largest_row n x (pivot n x) (lower_at n k f)))))) (factor_fault-reads n x y agree)
      ∙ ap₂ (λ e (h : ℕ). unless_fault (factor_fault n y) (unless_fault e (at_least_one (least_part k h))))
      (errors_fault_same n x y (pivot n x) (pivot n y) (lower_at n k f) (lower_at n k g) agree pivots entries)
      (largest_row_same n x y (pivot n x) (pivot n y) (lower_at n k f) (lower_at n k g) agree pivots entries)

  missed-reads : (a s : ℕ → ℤ) (i : ℕ) → i < n → missed n f a s i ≡ missed n g a s i
  missed-reads a s i p = ap (λ z. z -ℤ s i *ℤ pos (2 ^ 40)) (sum_to-ext n (λ j. f i j *ℤ a j) (λ j. g i j *ℤ a j) (λ j q. ap (λ z. z *ℤ a j) (same i j p q)))

  greatest_ball-reads : (total : ℕ) → greatest_ball n f total ≡ greatest_ball n g total
  greatest_ball-reads total =
      first_ext 51 (λ t. ball_at n f total (50 - t)) (λ t. ball_at n g total (50 - t)) (λ t p. ap (λ x. option_map (ball_from (50 - t) total) x) (low-reads (50 - t)))

  pub ball-reads : (a s : ℕ → ℤ) → ball_of n f a s ≡ ball_of n g a s
  ball-reads a s =
      let total = sum_ℕ_to-ext n (λ i. unsigned_abs (missed n f a s i)) (λ i. unsigned_abs (missed n g a s i)) (λ i p. ap unsigned_abs (missed-reads a s i p)) in
      ap₂ (λ e x. unless_fault e x)
      (first_ext n (λ i. too_large (missed n f a s i)) (λ i. too_large (missed n g a s i)) (λ i p. ap too_large (missed-reads a s i p)))
      (ap (λ (x : ℕ). greatest_ball n f x) total ∙ greatest_ball-reads (total_missed n g a s))
