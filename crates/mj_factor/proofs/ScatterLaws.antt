-- A number that is scattered to the dofs above its dof, one place of the list after another.
use Rattle.std.proofs.Common.{◌≡◌, ◌≢◌, ℕ, ◌+◌, ◌*◌, ◌^◌, ◌<◌, ◌≤◌, nat_lt, ℤ, pos, ◌*ℤ◌, sym, ap, ◌∙◌, arith, mul-le-mul, inl, inr}
use Rattle.std.proofs.lemmas.Bool.{cases_lt, cases_eq, cases_Bool, lt-ltb, le-ltb}
use Rattle.fx_whole.specs.Counting.{count_to}
use Rattle.fx_whole.specs.Sums.{when}
use Rattle.fx_whole.proofs.CountLaws.{count_to-below}
use Rattle.fx_whole.proofs.SumLaws.{when-true, when-false, when-zero}
use Rattle.mj_tree.specs.Listing.{start, height, listed}
use Rattle.mj_tree.proofs.ListingLaws.{listed_place, listed_is_above, named_at}
use Rattle.mj_types.specs.declared.model.Model.{Model}
use Rattle.mj_types.specs.declared.carriers.Factor.{Factor}
use Rattle.mj_types.specs.FactorRooms.{FactorRoom}
use Rattle.mj_types.specs.Forests.{above_in}
use Rattle.mj_types.specs.Parts.{number_at}
use Rattle.mj_factor.specs.Stored.{entry}
use Rattle.mj_factor.proofs.FactorLaws.{zero_left}
use Rattle.mj_factor.proofs.PlaceLaws.{forest_in}

pub sum_fits : (s a b : ℕ) → s ≤ 2 ^ 116 → a ≤ 2 ^ 48 → b ≤ 2 ^ 56 → s + a * b < 2 ^ 127
sum_fits s a b h p q = omega (arith, mul-le-mul p q)

-- the number of i once the first c places were taken
abbrev pub scattered : Model → Factor → ℕ → ℤ → ℕ → ℕ → ℤ
scattered m f k y c i = when (nat_lt (count_to i (λ j. above_in m j k)) c) (entry (above_in m) f.l k i *ℤ y)

module _ (m : Model) (f : Factor) (room : FactorRoom m f) (k : ℕ) (in_model : k < m.nv) (y : ℤ) where
  pub scattered_none : (i : ℕ) → scattered m f k y 0 i ≡ pos 0
  scattered_none i = when-false (nat_lt (count_to i (λ j. above_in m j k)) 0) _ (le-ltb (count_to i (λ j. above_in m j k)) 0 (omega arith))

  module _ (c : ℕ) (there : c < height (above_in m) k) where
    place_is : count_to (listed (above_in m) f.above k c) (λ j. above_in m j k) ≡ c
    place_is = listed_place (above_in m) m.nv f.at f.above room.listing k c in_model there

    pub scattered_not_yet : scattered m f k y c (listed (above_in m) f.above k c) ≡ pos 0
    scattered_not_yet =
        when-false (nat_lt (count_to (listed (above_in m) f.above k c) (λ j. above_in m j k)) c) _
        (le-ltb (count_to (listed (above_in m) f.above k c) (λ j. above_in m j k)) c (omega (arith, place_is)))

    pub scattered_here : scattered m f k y (c + 1) (listed (above_in m) f.above k c) ≡ number_at f.l (start (above_in m) k + c) *ℤ y
    scattered_here =
        when-true (nat_lt (count_to (listed (above_in m) f.above k c) (λ j. above_in m j k)) (c + 1)) _
        (lt-ltb (count_to (listed (above_in m) f.above k c) (λ j. above_in m j k)) (c + 1) (omega (arith, place_is)))
        ∙ ap (λ x. x *ℤ y)
        (when-true (above_in m (listed (above_in m) f.above k c) k) _ (listed_is_above (above_in m) m.nv f.at f.above room.listing k c in_model there)
        ∙ ap (λ (p : ℕ). number_at f.l (start (above_in m) k + p)) place_is)

    pub scattered_other : (i : ℕ) → i ≢ listed (above_in m) f.above k c → scattered m f k y (c + 1) i ≡ scattered m f k y c i
    scattered_other i other =
        elim (cases_Bool (above_in m i k)) [
          | inl e ↦ elim (cases_eq (count_to i (λ j. above_in m j k)) c) [
            | inl q ↦
                absurd (other (sym (named_at (above_in m) m.nv f.at f.above room.listing k i in_model ((forest_in m).before i k e) e)
                ∙ ap (λ (p : ℕ). listed (above_in m) f.above k p) q))
            | inr q ↦ ap (λ b. when b (entry (above_in m) f.l k i *ℤ y)) (elim (cases_lt (count_to i (λ j. above_in m j k)) c) [
              | inl r ↦ lt-ltb _ (c + 1) (omega arith) ∙ sym (lt-ltb _ c r)
              | inr r ↦ le-ltb _ (c + 1) (omega arith) ∙ sym (le-ltb _ c r)
            ])
          ]
          | inr e ↦
              let none : entry (above_in m) f.l k i *ℤ y ≡ pos 0 = zero_left (entry (above_in m) f.l k i) y (when-false (above_in m i k) _ e) in
              ap (when (nat_lt (count_to i (λ j. above_in m j k)) (c + 1))) none ∙ when-zero _
              ∙ sym (ap (when (nat_lt (count_to i (λ j. above_in m j k)) c)) none ∙ when-zero _)
        ]

  pub scattered_all : (i : ℕ) → scattered m f k y (height (above_in m) k) i ≡ entry (above_in m) f.l k i *ℤ y
  scattered_all i =
      elim (cases_Bool (above_in m i k)) [
        | inl e ↦
            when-true (nat_lt (count_to i (λ j. above_in m j k)) (height (above_in m) k)) _
            (lt-ltb _ (height (above_in m) k) (count_to-below i k (λ j. above_in m j k) ((forest_in m).before i k e) e))
        | inr e ↦
            let none : entry (above_in m) f.l k i *ℤ y ≡ pos 0 = zero_left (entry (above_in m) f.l k i) y (when-false (above_in m i k) _ e) in
            ap (when (nat_lt (count_to i (λ j. above_in m j k)) (height (above_in m) k))) none ∙ when-zero _ ∙ sym none
      ]
