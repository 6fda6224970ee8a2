-- A factor, a solve and a residual read a matrix, its factor and a right side below n alone: where two agree there, so do these.
use Rattle.std.proofs.Common.{◌≡◌, ℕ, zero, suc, ◌+◌, ◌-◌, ◌^◌, ◌<◌, ◌≤◌, ℤ, pos, ◌-ℤ◌, ◌*ℤ◌, refl, sym, ap, ap₂, ◌∙◌, arith, unsigned_abs, max, rules, add-one, inl, inr}
use Rattle.std.proofs.lemmas.Bool.{cases_lt}
use Rattle.fx_whole.specs.First.{or_first}
use Rattle.fx_whole.specs.Nearest.{nearest}
use Rattle.fx_whole.proofs.FirstLaws.{first_ext}
use Rattle.fx_whole.proofs.SumLaws.{sum_to-ext}
use Rattle.fx_whole.proofs.TableLaws.{sum_after-ext}
use Rattle.mj_factor.specs.Factors.{lower_of, work, lower, pivot, pivot_fault, entry_fault, row_fault, factor_fault}
use Rattle.mj_factor.specs.Solves.{back, over_pivots, solution, accel_fault, forth_fault, solve_fault}
use Rattle.mj_factor.specs.Residuals.{greatest_to, residual_at}
use Rattle.mj_factor.proofs.FactorLaws.{work_is}
use Rattle.mj_factor.proofs.SolveLaws.{back_is, forth_is}

-- two matrices agree below n
abbrev pub Agree2 : ℕ → (ℕ → ℕ → ℤ) → (ℕ → ℕ → ℤ) → Type 0
Agree2 n f g = (k i : ℕ) → k < n → i < n → f k i ≡ g k i

-- two right sides, or two diagonals
abbrev pub Agree : ℕ → (ℕ → ℤ) → (ℕ → ℤ) → Type 0
Agree n f g = (i : ℕ) → i < n → f i ≡ g i

-- two factors agree below the diagonal
abbrev pub AgreeBelow : ℕ → (ℕ → ℕ → ℤ) → (ℕ → ℕ → ℤ) → Type 0
AgreeBelow n f g = (k i : ℕ) → k < n → i < k → f k i ≡ g k i

-- ---- the factor
module _ (n : ℕ) (f g : ℕ → ℕ → ℤ) (same : Agree2 n f g) where
  -- the last s rows
  last : (s k i : ℕ) → n ≤ k + s → k < n → i < n → work n f k i ≡ work n g k i
  last zero k i h p q = absurd (omega arith)
  last (suc s) k i h p q =
      work_is n f k i p
      ∙ ap₂ (λ x y. x -ℤ nearest y (pos (2 ^ 32))) (same k i p q)
      (sum_after-ext k n (λ l. lower_of (work n f) l k *ℤ work n f l i) (λ l. lower_of (work n g) l k *ℤ work n g l i)
      (λ l a b. ap₂ (λ x y. x *ℤ y) (ap₂ (λ x y. nearest (x *ℤ pos (2 ^ 32)) y) (last s l k (omega arith) b p) (last s l l (omega arith) b b)) (last s l i (omega arith) b q)))
      ∙ sym (work_is n g k i p)

  pub work-reads : (k i : ℕ) → k < n → i < n → work n f k i ≡ work n g k i
  work-reads k i p q = last n k i (omega arith) p q

  pub pivot-reads : (k : ℕ) → k < n → pivot n f k ≡ pivot n g k
  pivot-reads k p = work-reads k k p p

  pub lower-reads : (k i : ℕ) → k < n → i < n → lower n f k i ≡ lower n g k i
  lower-reads k i p q = ap₂ (λ x y. nearest (x *ℤ pos (2 ^ 32)) y) (work-reads k i p q) (work-reads k k p p)

  row-reads : (k : ℕ) → k < n → row_fault n f k ≡ row_fault n g k
  row-reads k p =
      ap₂ (λ x y. or_first x y) (ap (pivot_fault k) (pivot-reads k p))
      (first_ext k (λ i. entry_fault k (work n f k i) (lower n f k i)) (λ i. entry_fault k (work n g k i) (lower n g k i))
      (λ i q. ap₂ (entry_fault k) (work-reads k i p (omega arith)) (lower-reads k i p (omega arith))))

  pub factor_fault-reads : factor_fault n f ≡ factor_fault n g
  factor_fault-reads = first_ext n (λ s. row_fault n f (n - 1 - s)) (λ s. row_fault n g (n - 1 - s)) (λ s p. row-reads (n - 1 - s) (omega arith))

-- ---- a solve
module _ (n : ℕ) (l m : ℕ → ℕ → ℤ) (d e s t : ℕ → ℤ) (below : AgreeBelow n l m) (pivots : Agree n d e) (right : Agree n s t) where
  last-back : (j i : ℕ) → n ≤ i + j → i < n → back n l s i ≡ back n m t i
  last-back zero i h p = absurd (omega arith)
  last-back (suc j) i h p =
      back_is n l s i p
      ∙ ap₂ (λ x y. x -ℤ nearest y (pos (2 ^ 32))) (right i p)
      (sum_after-ext i n (λ k. l k i *ℤ back n l s k) (λ k. m k i *ℤ back n m t k)
      (λ k a b. ap₂ (λ x y. x *ℤ y) (below k i b a) (last-back j k (omega arith) b)))
      ∙ sym (back_is n m t i p)

  pub back-reads : (i : ℕ) → i < n → back n l s i ≡ back n m t i
  back-reads i p = last-back n i (omega arith) p

  over-reads : (i : ℕ) → i < n → over_pivots d (back n l s) i ≡ over_pivots e (back n m t) i
  over-reads i p = ap₂ (λ x y. nearest (x *ℤ pos (2 ^ 40)) y) (back-reads i p) (pivots i p)

  first-forth : (j i : ℕ) → i < j → i < n → solution n l d s i ≡ solution n m e t i
  first-forth zero i h p = absurd (omega arith)
  first-forth (suc j) i h p =
      forth_is l (over_pivots d (back n l s)) i
      ∙ ap₂ (λ x y. x -ℤ nearest y (pos (2 ^ 32))) (over-reads i p)
      (sum_to-ext i (λ k. l i k *ℤ solution n l d s k) (λ k. m i k *ℤ solution n m e t k)
      (λ k a. ap₂ (λ x y. x *ℤ y) (below i k p a) (first-forth j k (omega arith) (omega arith))))
      ∙ sym (forth_is m (over_pivots e (back n m t)) i)

  pub solution-reads : (i : ℕ) → i < n → solution n l d s i ≡ solution n m e t i
  solution-reads i p = first-forth (suc i) i (omega arith) p

  pub solve_fault-reads : solve_fault n l d s ≡ solve_fault n m e t
  solve_fault-reads =
      ap₂ (λ x y. or_first x y)
      (first_ext n (λ j. accel_fault (n - 1 - j) (back n l s (n - 1 - j))) (λ j. accel_fault (n - 1 - j) (back n m t (n - 1 - j))) (λ j p. ap (accel_fault (n - 1 - j)) (back-reads (n - 1 - j) (omega arith))))
      (first_ext n (forth_fault n l d s) (forth_fault n m e t)
      (λ i p. ap₂ (λ x y. or_first (accel_fault i x) (accel_fault i y)) (over-reads i p) (solution-reads i p)))

-- ---- a residual
-- one more
pub greatest-more : (n : ℕ) (f : ℕ → ℕ) → greatest_to (n + 1) f ≡ max (greatest_to n f) (f n)
greatest-more n f = ap (λ (m : ℕ). greatest_to m f) (add-one n)

pub greatest-reads : (n : ℕ) (f g : ℕ → ℕ) → ((i : ℕ) → i < n → f i ≡ g i) → greatest_to n f ≡ greatest_to n g
greatest-reads zero f g same = refl
greatest-reads (suc n) f g same = ap₂ max (greatest-reads n f g (λ i h. same i (omega arith))) (same n (omega arith))

pub residual-reads : (n : ℕ) (f g : ℕ → ℕ → ℤ) (a b s t : ℕ → ℤ) → Agree2 n f g → Agree n a b → Agree n s t
    → greatest_to n (residual_at n f a s) ≡ greatest_to n (residual_at n g b t)
residual-reads n f g a b s t matrix solved right =
    greatest-reads n (residual_at n f a s) (residual_at n g b t)
    (λ i h. ap₂ (λ x y. unsigned_abs (x -ℤ y *ℤ pos (2 ^ 40)))
    (sum_to-ext n (λ j. f i j *ℤ a j) (λ j. g i j *ℤ b j) (λ j p. ap₂ (λ x y. x *ℤ y) (matrix i j h p) (solved j p))) (right i h))

-- each is at most the greatest
pub greatest-above : (n : ℕ) (f : ℕ → ℕ) (i : ℕ) → i < n → f i ≤ greatest_to n f
greatest-above zero f i h = absurd (omega arith)
greatest-above (suc n) f i h = elim (cases_lt i n) [
  | inl p ↦ omega (arith, greatest-above n f i p, max-left (greatest_to n f) (f n))
  | inr p ↦ omega (arith, ap f (same i n p h), max-right (greatest_to n f) (f n))
]
  where
    same : (i n : ℕ) → n ≤ i → i < suc n → i ≡ n
    same i n p h = omega arith

    max-left : (a b : ℕ) → a ≤ max a b
    max-left a b = search rules

    max-right : (a b : ℕ) → b ≤ max a b
    max-right a b = search rules
