-- Sums for a row of a factor, over the rows that are stored.
use Rattle.std.proofs.Common.{◌≡◌, ℕ, ◌+◌, ◌*◌, ◌^◌, ◌<◌, ◌≤◌, true, ℤ, pos, ◌*ℤ◌, unsigned_abs, length, sym, ap, arith, mul-le-mul_right, inl, inr}
use Rattle.std.proofs.lemmas.Bool.{cases_Bool}
use Rattle.fx_whole.specs.Sums.{sum_to}
use Rattle.fx_whole.proofs.Ring.{abs_mul_le}
use Rattle.fx_whole.proofs.SumLaws.{sum_to-bounded, sum_to-none, when-false, when-size}
use Rattle.mj_tree.specs.Listing.{start, height}
use Rattle.mj_tree.proofs.ListingLaws.{start_le, height_less, none_later_is_above}
use Rattle.mj_types.specs.declared.model.Model.{Model}
use Rattle.mj_types.specs.declared.carriers.Factor.{Factor}
use Rattle.mj_types.specs.FactorRooms.{FactorRoom}
use Rattle.mj_types.specs.Forests.{above_in}
use Rattle.mj_factor.specs.Stored.{row_term, SmallFrom}
use Rattle.mj_factor.proofs.PlaceLaws.{forest_in, few_dofs, row_within}

-- the place of a pair in the later dof's list
pub place_there : (m : Model) (f : Factor) → FactorRoom m f → (i k : ℕ) → k < m.nv → above_in m i k ≡ true
    → start (above_in m) k + height (above_in m) i < length f.above
place_there m f room i k h e =
    omega (arith, height_less m.nv (above_in m) (forest_in m) i k h e, row_within m f room k h)

-- a bound of each term, and of the sum
times_64 : (j b : ℕ) → j ≤ 64 → j * b ≤ 64 * b
times_64 j b h = mul-le-mul_right b h

module _ (m : Model) (l w : ℕ → ℤ) (k c : ℕ) where
  pub term_none : (j : ℕ) → j ≤ k → row_term (above_in m) l w k c j ≡ pos 0
  term_none j h = when-false (above_in m k j) _ (none_later_is_above m.nv (above_in m) (forest_in m) k j h)

  pub sum_begins : pos 0 ≡ sum_to (k + 1) (row_term (above_in m) l w k c)
  sum_begins = sym (sum_to-none (k + 1) (row_term (above_in m) l w k c) (λ j h. term_none j (omega arith)))

  module _ (works : SmallFrom (2 ^ 60) (start (above_in m) (k + 1)) w) (lowers : SmallFrom (2 ^ 48) (start (above_in m) (k + 1)) l) where
    term_small : (j : ℕ) → unsigned_abs (row_term (above_in m) l w k c j) ≤ 2 ^ 108
    term_small j =
        elim (cases_Bool (above_in m k j)) [
          | inl e ↦
              let from : start (above_in m) (k + 1) ≤ start (above_in m) j = start_le (above_in m) (k + 1) j (omega (arith, (forest_in m).before k j e)) in
              let product : unsigned_abs (l (start (above_in m) j + height (above_in m) k) *ℤ w (start (above_in m) j + c)) ≤ 2 ^ 108 =
              abs_mul_le (l (start (above_in m) j + height (above_in m) k)) (w (start (above_in m) j + c)) (2 ^ 48) (2 ^ 60)
              (lowers (start (above_in m) j + height (above_in m) k) (omega arith)) (works (start (above_in m) j + c) (omega arith)) in
              omega (arith, product, when-size (above_in m k j) (l (start (above_in m) j + height (above_in m) k) *ℤ w (start (above_in m) j + c)))
          | inr e ↦ omega (arith, ap unsigned_abs (when-false (above_in m k j) (l (start (above_in m) j + height (above_in m) k) *ℤ w (start (above_in m) j + c)) e))
        ]

    pub sum_small : (j : ℕ) → j ≤ m.nv → (x : ℤ) → x ≡ sum_to j (row_term (above_in m) l w k c) → unsigned_abs x ≤ 2 ^ 116
    sum_small j h x e =
        omega (
          arith,
          ap unsigned_abs e,
          sum_to-bounded j (2 ^ 108) (row_term (above_in m) l w k c) (λ i p. term_small i),
          times_64 j (2 ^ 108) (omega (arith, few_dofs m)),
        )
