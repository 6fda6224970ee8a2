-- A sum over the dofs above a dof, one place of its list after another.
use Rattle.std.proofs.Common.{◌≡◌, ℕ, ◌+◌, ◌^◌, ◌<◌, ◌≤◌, ℤ, ◌*ℤ◌, unsigned_abs, sym, ap, ◌∙◌, arith, mul-le-mul_right}
use Rattle.fx_whole.specs.Sums.{sum_to}
use Rattle.fx_whole.proofs.Ring.{abs_mul_le}
use Rattle.fx_whole.proofs.SumLaws.{sum_to-ext, sum_to-bounded, when-true, when-false}
use Rattle.mj_tree.specs.Listing.{start, height, listed}
use Rattle.mj_tree.proofs.ListingLaws.{height_le, listed_place, listed_is_above, listed_is_before, sum_to_over_listed}
use Rattle.mj_types.specs.declared.model.Model.{Model}
use Rattle.mj_types.specs.declared.carriers.Factor.{Factor}
use Rattle.mj_types.specs.Forests.{above_in}
use Rattle.mj_types.specs.Parts.{number_at}
use Rattle.mj_factor.specs.Stored.{entry, IsFactor}
use Rattle.mj_factor.proofs.FactorLaws.{zero_left}
use Rattle.mj_factor.proofs.PlaceLaws.{few_dofs}

-- what the place c adds
abbrev pub gathered : Model → Factor → ℕ → (ℕ → ℤ) → ℕ → ℤ
gathered m f i a c = number_at f.l (start (above_in m) i + c) *ℤ a (listed (above_in m) f.above i c)

module _ (m : Model) (f : Factor) (is : IsFactor m f) (i : ℕ) (in_model : i < m.nv) (a : ℕ → ℤ) where
  pub gathered_small : ((k : ℕ) → k < i → unsigned_abs (a k) ≤ 2 ^ 56) → (c : ℕ) → c ≤ height (above_in m) i
      → (x : ℤ) → x ≡ sum_to c (gathered m f i a) → unsigned_abs x ≤ 2 ^ 116
  gathered_small small c h x e =
      omega (arith, ap unsigned_abs e, sum_to-bounded c (2 ^ 104) (gathered m f i a) each, mul-le-mul_right (2 ^ 104) few)
    where
      few : c ≤ 64
      few = omega (arith, height_le (above_in m) i, few_dofs m)

      each : (d : ℕ) → d < c → unsigned_abs (gathered m f i a d) ≤ 2 ^ 104
      each d p =
          abs_mul_le (number_at f.l (start (above_in m) i + d)) (a (listed (above_in m) f.above i d)) (2 ^ 48) (2 ^ 56)
          (is.lower (start (above_in m) i + d))
          (small (listed (above_in m) f.above i d) (listed_is_before (above_in m) m.nv f.at f.above is.room.listing i d in_model (omega arith)))

  pub gathered_all : sum_to (height (above_in m) i) (gathered m f i a) ≡ sum_to i (λ k. entry (above_in m) f.l i k *ℤ a k)
  gathered_all =
      sum_to-ext (height (above_in m) i) (gathered m f i a) (λ c. entry (above_in m) f.l i (listed (above_in m) f.above i c) *ℤ a (listed (above_in m) f.above i c)) each
      ∙ sym (sum_to_over_listed (above_in m) m.nv f.at f.above is.room.listing i in_model (λ k. entry (above_in m) f.l i k *ℤ a k)
      (λ k h e. zero_left (entry (above_in m) f.l i k) (a k) (when-false (above_in m k i) _ e)))
    where
      each : (c : ℕ) → c < height (above_in m) i → gathered m f i a c ≡ entry (above_in m) f.l i (listed (above_in m) f.above i c) *ℤ a (listed (above_in m) f.above i c)
      each c h =
          ap (λ x. x *ℤ a (listed (above_in m) f.above i c))
          (ap (λ (p : ℕ). number_at f.l (start (above_in m) i + p)) (sym (listed_place (above_in m) m.nv f.at f.above is.room.listing i c in_model h))
          ∙ sym (when-true (above_in m (listed (above_in m) f.above i c) i) _ (listed_is_above (above_in m) m.nv f.at f.above is.room.listing i c in_model h)))
