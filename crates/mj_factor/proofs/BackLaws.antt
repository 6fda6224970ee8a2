-- The way back of a solve, dof after dof: what the sums hold, and what the next number is.
use Rattle.std.proofs.Common.{◌≡◌, ℕ, ◌+◌, ◌^◌, ◌<◌, ◌≤◌, ℤ, pos, ◌+ℤ◌, ◌-ℤ◌, ◌*ℤ◌, unsigned_abs, List, sym, ap, ap₂, ◌∙◌, subst, arith, inl, inr}
use Rattle.std.proofs.lemmas.Bool.{cases_eq}
use Rattle.fx_whole.specs.Counting.{count_to}
use Rattle.fx_whole.specs.Nearest.{nearest}
use Rattle.fx_whole.proofs.Ring.{abs_mul_le}
use Rattle.fx_whole.proofs.SumLaws.{when-size}
use Rattle.fx_num.specs.declared.number.Wide.{Wide}
use Rattle.mj_tree.specs.Listing.{start}
use Rattle.mj_types.specs.declared.model.Model.{Model}
use Rattle.mj_types.specs.declared.carriers.Factor.{Factor}
use Rattle.mj_types.specs.Duals.{wide_at}
use Rattle.mj_types.specs.Forests.{above_in}
use Rattle.mj_types.specs.Parts.{number_at}
use Rattle.mj_factor.specs.Solves.{back}
use Rattle.mj_factor.specs.Stored.{entry, less, sum_from, IsFactor}
use Rattle.mj_factor.proofs.PlaceLaws.{few_dofs}
use Rattle.mj_factor.proofs.SolveLaws.{back_is, sum_from-none, sum_from-after, sum_from-more, sum_from-small}

-- the dofs from p on are done: x is the right side
pub record IsBackTo (m : Model) (f : Factor) (x : ℕ → ℤ) (p : ℕ) (sums : List (Wide 64)) : Type 0 where
  pub sums_are : (i : ℕ) → wide_at sums i ≡ sum_from p m.nv (λ j. entry (above_in m) f.l j i *ℤ back m.nv (entry (above_in m) f.l) x j)
  pub small : (j : ℕ) → p ≤ j → j < m.nv → unsigned_abs (back m.nv (entry (above_in m) f.l) x j) ≤ 2 ^ 56

module _ (m : Model) (f : Factor) (is : IsFactor m f) (x : ℕ → ℤ) where
  pub back_begins : (sums : List (Wide 64)) → ((i : ℕ) → wide_at sums i ≡ pos 0) → IsBackTo m f x m.nv sums
  back_begins sums none = record {
    sums_are = λ i. none i ∙ sym (sum_from-none m.nv (λ j. entry (above_in m) f.l j i *ℤ back m.nv (entry (above_in m) f.l) x j));
    small = λ j h p. absurd (omega arith);
  }

  pub entry_small : (k i : ℕ) → unsigned_abs (entry (above_in m) f.l k i) ≤ 2 ^ 48
  entry_small k i =
      let place = start (above_in m) k + count_to i (λ j. above_in m j k) in
      omega (arith, when-size (above_in m i k) (number_at f.l place), is.lower place)

  module _ (k : ℕ) (in_model : k < m.nv) (sums : List (Wide 64)) (far : IsBackTo m f x (k + 1) sums) where
    pub sums_small : (i : ℕ) → unsigned_abs (wide_at sums i) ≤ 2 ^ 116
    sums_small i =
        omega (
          arith,
          ap unsigned_abs (far.sums_are i),
          sum_from-small m.nv (λ j. entry (above_in m) f.l j i *ℤ back m.nv (entry (above_in m) f.l) x j) (k + 1) (2 ^ 104) (few_dofs m)
              (λ j h p. abs_mul_le (entry (above_in m) f.l j i) (back m.nv (entry (above_in m) f.l) x j) (2 ^ 48) (2 ^ 56) (entry_small j i) (far.small j h p)),
        )

    -- the next number
    pub back_here : less (x k) (wide_at sums k) ≡ back m.nv (entry (above_in m) f.l) x k
    back_here =
        ap (λ s. x k -ℤ nearest s (pos (2 ^ 32)))
        (far.sums_are k ∙ sum_from-after m.nv (λ j. entry (above_in m) f.l j k *ℤ back m.nv (entry (above_in m) f.l) x j) k)
        ∙ sym (back_is m.nv (entry (above_in m) f.l) x k in_model)

    pub back_more : (y : ℤ) → y ≡ less (x k) (wide_at sums k) → unsigned_abs y ≤ 2 ^ 56 → (new : List (Wide 64))
        → ((i : ℕ) → wide_at new i ≡ wide_at sums i +ℤ entry (above_in m) f.l k i *ℤ y) → IsBackTo m f x k new
    back_more y e limit new added = record {
      sums_are = λ i.
          added i ∙ ap₂ (λ s t. s +ℤ entry (above_in m) f.l k i *ℤ t) (far.sums_are i) (e ∙ back_here)
          ∙ sym (sum_from-more m.nv (λ j. entry (above_in m) f.l j i *ℤ back m.nv (entry (above_in m) f.l) x j) k in_model);
      small = λ j h p. elim (cases_eq j k) [
        | inl q ↦ subst (λ (n : ℕ). unsigned_abs (back m.nv (entry (above_in m) f.l) x n) ≤ 2 ^ 56) (sym q)
            (omega (arith, ap unsigned_abs (e ∙ back_here), limit))
        | inr q ↦ far.small j (omega arith) p
      ];
    }
