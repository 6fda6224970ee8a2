-- Products of a pair of dofs: in either order they are the same, and where neither is above the other they are 0.
use Rattle.std.proofs.Common.{◌≡◌, ◌≢◌, ℕ, ◌<◌, nat_lt, ◌==◌, ◌^◌, Bool, true, false, ℤ, pos, ◌*ℤ◌, refl, sym, ap, ◌∙◌, arith, inl, inr, List}
use Rattle.std.proofs.lemmas.Bool.{cases_eq, ne_eqb, cond-false}
use Rattle.fx_whole.specs.Sums.{when}
use Rattle.fx_whole.proofs.Ring.{ring}
use Rattle.fx_whole.proofs.SumLaws.{when-false, when-zero}
use Rattle.fx_num.specs.declared.number.Number.{Number}
use Rattle.mj_tree.specs.Tree.{IsForest}
use Rattle.mj_factor.specs.Stored.{entry}
use Rattle.mj_factor.proofs.FactorLaws.{zero_left, zero_right}
use Rattle.mj_quadratic.specs.Forms.{product}
use Rattle.mj_ball.specs.Shifts.{with_diagonal}

pub product_swap : (d : ℕ → ℤ) (l : ℕ → ℕ → ℤ) (i j r : ℕ) → product d l i j r ≡ product d l j i r
product_swap d l i j r = swap (d r) (l r i) (l r j)
  where
    swap : (x y z : ℤ) → (x *ℤ y) *ℤ z ≡ (x *ℤ z) *ℤ y
    swap x y z = simp ring

module _ (above : ℕ → ℕ → Bool) {F : ℕ} (xs : List (Number (Unit {0}) F)) where
  pub no_entry : (r i : ℕ) → r ≢ i → above i r ≡ false → with_diagonal (entry above xs) r i ≡ pos 0
  no_entry r i h e =
      cond-false (r == i) (pos (2 ^ 32)) (when (nat_lt i r) (entry above xs r i)) (ne_eqb r i h)
      ∙ ap (λ x. when (nat_lt i r) x) (when-false (above i r) _ e) ∙ when-zero (nat_lt i r)

  pub product_apart : (n : ℕ) → IsForest n above → (d : ℕ → ℤ) (i j r : ℕ) → r < n → j < i → above j i ≡ false → product d (with_diagonal (entry above xs)) i j r ≡ pos 0
  product_apart n forest d i j r p q e = elim (cases_eq r i) [
    | inl s ↦ right (no_entry r j (λ t. omega (arith, s, t, q)) (ap (λ (x : ℕ). above j x) s ∙ e))
    | inr s ↦ by_left (above i r) refl s
  ]
    where
      l : ℕ → ℕ → ℤ
      l = with_diagonal (entry above xs)

      right : with_diagonal (entry above xs) r j ≡ pos 0 → product d (with_diagonal (entry above xs)) i j r ≡ pos 0
      right z = zero_right (d r *ℤ with_diagonal (entry above xs) r i) (with_diagonal (entry above xs) r j) z

      by_right : (b : Bool) → above j r ≡ b → above i r ≡ true → product d (with_diagonal (entry above xs)) i j r ≡ pos 0
      by_right false t u = right (no_entry r j (λ v. omega (arith, v, q, forest.before i r u)) t)
      by_right true t u = absurd (clash (sym e ∙ forest.between j i r p q t u))
        where
          clash : false ≡ true → ⊥
          clash h = cc

      by_left : (b : Bool) → above i r ≡ b → r ≢ i → product d (with_diagonal (entry above xs)) i j r ≡ pos 0
      by_left false t s = zero_left (d r *ℤ with_diagonal (entry above xs) r i) (with_diagonal (entry above xs) r j) (zero_right (d r) (with_diagonal (entry above xs) r i) (no_entry r i s t))
      by_left true t s = by_right (above j r) refl t

  -- a row that has an entry in column i has one in each column that i has one in
  pub meets_too : (n : ℕ) → IsForest n above → (i j r : ℕ) → r < n → with_diagonal (entry above xs) r i ≢ pos 0 → (j ≢ i → above j i ≡ true) → j ≢ r → above j r ≡ true
  meets_too n forest i j r p some met h = elim (cases_eq r i) [
    | inl s ↦ ap (λ (x : ℕ). above j x) s ∙ met (λ t. h (t ∙ sym s))
    | inr s ↦ by_left (above i r) refl s
  ]
    where
      by_left : (b : Bool) → above i r ≡ b → r ≢ i → above j r ≡ true
      by_left false t s = absurd (some (no_entry r i s t))
      by_left true t s = elim (cases_eq j i) [
        | inl e ↦ ap (λ (x : ℕ). above x r) e ∙ t
        | inr e ↦ forest.through j i r p (met e) t
      ]
