-- Where entries stand in the lists of a factor that was made for a model.
use Rattle.std.proofs.Common.{◌≡◌, ℕ, ◌+◌, ◌*◌, ◌^◌, ◌<◌, ◌≤◌, ◌==◌, nat_lt, ◌&&◌, length, slice_index_or, sym, ap₂, ◌∙◌, arith, inl, inr}
use Rattle.std.proofs.lemmas.Bool.{cases_lt, lt-ltb, le-ltb}
use Rattle.fx_whole.proofs.SumLaws.{sum_ℕ_to-bounded}
use Rattle.mj_tree.specs.Tree.{IsForest}
use Rattle.mj_tree.specs.Listing.{height, start}
use Rattle.mj_tree.proofs.DofLaws.{layout_is_forest}
use Rattle.mj_tree.proofs.ListingLaws.{start_more, height_le, list_within, above_by_place}
use Rattle.mj_types.specs.declared.model.Model.{Model}
use Rattle.mj_types.specs.declared.carriers.Factor.{Factor}
use Rattle.mj_types.specs.FactorRooms.{FactorRoom}
use Rattle.mj_types.specs.Forests.{above_in}
use Rattle.mj_types.specs.Parts.{parent_of, body_of, first_dof}
use Rattle.mj_types.proofs.LayoutLaws.{is_layout}

pub forest_in : (m : Model) → IsForest m.nv (above_in m)
forest_in m =
    layout_is_forest (parent_of m.bodies) (body_of m.dofs) (first_dof m.bodies) (length m.bodies) m.nv
    (is_layout m.bodies m.joints m.dofs m.nq m.nv m.of_bodies m.of_joints m.of_dofs)

pub few_dofs : (m : Model) → m.nv ≤ 64
few_dofs m = m.of_joints.few

pub start_small : (m : Model) (k : ℕ) → k ≤ m.nv → start (above_in m) k ≤ 64 * 64
start_small m k h =
    omega (
      arith,
      few_dofs m,
      sum_ℕ_to-bounded k 64 (height (above_in m)) (λ j p. omega (arith, height_le (above_in m) j, few_dofs m)),
    )

-- where the lists are those of the model
module _ (m : Model) (f : Factor) (room : FactorRoom m f) where
  pub places_are : (k : ℕ) → k ≤ m.nv → slice_index_or f.at k 0 ≡ start (above_in m) k
  places_are k h = room.listing.starts k h

  pub places_length : length f.at ≡ m.nv + 1
  places_length = room.listing.ends

  pub row_within : (k : ℕ) → k < m.nv → start (above_in m) k + height (above_in m) k ≤ length f.above
  row_within k h = list_within (above_in m) m.nv f.at f.above room.listing k h

  -- one look tells whether i is above k
  pub above_by : (i k : ℕ) → k < m.nv → (p : ℕ) → p ≡ start (above_in m) k + height (above_in m) i
      → above_in m i k ≡ (nat_lt p (start (above_in m) (k + 1)) && slice_index_or f.above p 0 == i + 1)
  above_by i k h p e =
      above_by_place (above_in m) m.nv f.at f.above room.listing (forest_in m) i k h
      ∙ ap₂ (λ x (y : ℕ). x && slice_index_or f.above y 0 == i + 1) less (sym e)
    where
      less : nat_lt (height (above_in m) i) (height (above_in m) k) ≡ nat_lt p (start (above_in m) (k + 1))
      less =
          elim (cases_lt (height (above_in m) i) (height (above_in m) k)) [
            | inl q ↦ lt-ltb _ _ q ∙ sym (lt-ltb p (start (above_in m) (k + 1)) (omega (arith, e, start_more (above_in m) k)))
            | inr q ↦ le-ltb _ _ q ∙ sym (le-ltb p (start (above_in m) (k + 1)) (omega (arith, e, start_more (above_in m) k)))
          ]

  pub place_end : (k : ℕ) → k < m.nv → start (above_in m) (k + 1) ≤ length f.above
  place_end k h = omega (arith, row_within k h, start_more (above_in m) k)

-- a place in a list is below 64, and the place among all fits
pub place_small : (m : Model) (k c : ℕ) → k < m.nv → c < height (above_in m) k → c < 64
place_small m k c h p = omega (arith, p, height_le (above_in m) k, few_dofs m)

pub places_small : (m : Model) (k c : ℕ) → k < m.nv → c < height (above_in m) k → start (above_in m) k + c < 2 ^ 64
places_small m k c h p = omega (arith, place_small m k c h p, start_small m k (omega arith))
