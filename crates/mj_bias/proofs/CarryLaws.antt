-- Down the tree: a body's sums begin as its parent's whole sums, and are whole after its last dof.
use Rattle.std.proofs.Common.{◌≡◌, ◌≢◌, ℕ, suc, ◌+◌, ◌^◌, ◌<◌, length, sym, ap, ap₂, ◌∙◌, subst, arith, add-one, inl, inr}
use Rattle.std.proofs.lemmas.Bool.{cases_eq}
use Rattle.fx_num.specs.Radii.{radius_limit}
use Rattle.fx_vec.specs.Sums.{vectors, sizes}
use Rattle.fx_vec.proofs.SumLaws.{vectors-is_adding, sizes-is_adding}
use Rattle.mj_tree.proofs.DownLaws.{moving_start, moving_end_at, moving_world}
use Rattle.mj_types.specs.declared.bias.Bias.{Bias}
use Rattle.mj_types.specs.declared.model.Model.{Model}
use Rattle.mj_types.specs.declared.carriers.Frames.{Frames}
use Rattle.mj_types.specs.declared.state.State.{State}
use Rattle.mj_types.specs.Parts.{body, parent_of, body_of, first_dof}
use Rattle.mj_bias.specs.Movement.{Movement}
use Rattle.mj_bias.specs.Biases.{own_motion, own_drift}
use Rattle.mj_bias.specs.Radii.{Rule, own_motion_width, own_drift_width}
use Rattle.mj_bias.specs.Measures.{Measured, measured, no_measure, numbers_at, totals_at, settled_by, IsWithin}
use Rattle.mj_bias.specs.Carried.{movement, carrier_at, motion_to, drift_to, IsCarried, IsBegun, CarriesNext, IsVelocity}
use Rattle.mj_bias.proofs.MovingLaws.{layout_of, own_carrier}
use Rattle.mj_bias.proofs.PlaceLaws.{place, place_le, place_none, of_later}

module _ (rule : Rule) (model : Model) (frames : Frames) (state : State) where
  abbrev moved : Movement
  moved = movement model frames state

  -- ---- sums
  motion_begins : (b : ℕ) → b < length model.bodies → motion_to moved model.nv (body model.bodies b).parent ≡ motion_to moved (body model.bodies b).dofadr (b + 1)
  unfolding motion_to
  motion_begins b h =
      ap₂ (λ s w. measured s w)
      (moving_start vectors vectors-is_adding (parent_of model.bodies) (body_of model.dofs) (first_dof model.bodies) (length model.bodies) model.nv (layout_of model) (own_motion moved) (suc b) (omega arith) (omega arith))
      (moving_start sizes sizes-is_adding (parent_of model.bodies) (body_of model.dofs) (first_dof model.bodies) (length model.bodies) model.nv (layout_of model) (own_motion_width moved) (suc b) (omega arith) (omega arith))
      ∙ ap (motion_to moved (body model.bodies b).dofadr) (sym (add-one b))

  drift_begins : (b : ℕ) → b < length model.bodies → drift_to rule moved model.nv (body model.bodies b).parent ≡ drift_to rule moved (body model.bodies b).dofadr (b + 1)
  unfolding drift_to
  drift_begins b h =
      ap₂ (λ s w. measured s w)
      (moving_start vectors vectors-is_adding (parent_of model.bodies) (body_of model.dofs) (first_dof model.bodies) (length model.bodies) model.nv (layout_of model) (own_drift moved) (suc b) (omega arith) (omega arith))
      (moving_start sizes sizes-is_adding (parent_of model.bodies) (body_of model.dofs) (first_dof model.bodies) (length model.bodies) model.nv (layout_of model) (own_drift_width rule moved) (suc b) (omega arith) (omega arith))
      ∙ ap (drift_to rule moved (body model.bodies b).dofadr) (sym (add-one b))

  motion_ends : (b : ℕ) → b < length model.bodies → motion_to moved (place model (b + 1)) (b + 1) ≡ motion_to moved model.nv (b + 1)
  unfolding motion_to
  motion_ends b h =
      ap₂ (λ s w. measured s w)
      (moving_end_at vectors vectors-is_adding (parent_of model.bodies) (body_of model.dofs) (first_dof model.bodies) (length model.bodies) model.nv (layout_of model) (own_motion moved) (place model (b + 1)) (b + 1) (place_le model (b + 1) (omega arith)) (of_later model b h))
      (moving_end_at sizes sizes-is_adding (parent_of model.bodies) (body_of model.dofs) (first_dof model.bodies) (length model.bodies) model.nv (layout_of model) (own_motion_width moved) (place model (b + 1)) (b + 1) (place_le model (b + 1) (omega arith)) (of_later model b h))

  drift_ends : (b : ℕ) → b < length model.bodies → drift_to rule moved (place model (b + 1)) (b + 1) ≡ drift_to rule moved model.nv (b + 1)
  unfolding drift_to
  drift_ends b h =
      ap₂ (λ s w. measured s w)
      (moving_end_at vectors vectors-is_adding (parent_of model.bodies) (body_of model.dofs) (first_dof model.bodies) (length model.bodies) model.nv (layout_of model) (own_drift moved) (place model (b + 1)) (b + 1) (place_le model (b + 1) (omega arith)) (of_later model b h))
      (moving_end_at sizes sizes-is_adding (parent_of model.bodies) (body_of model.dofs) (first_dof model.bodies) (length model.bodies) model.nv (layout_of model) (own_drift_width rule moved) (place model (b + 1)) (b + 1) (place_le model (b + 1) (omega arith)) (of_later model b h))

  motion_of_world : motion_to moved model.nv 0 ≡ no_measure
  unfolding motion_to
  motion_of_world =
      ap₂ (λ s w. measured s w)
      (moving_world vectors vectors-is_adding (parent_of model.bodies) (body_of model.dofs) (first_dof model.bodies) (length model.bodies) model.nv (layout_of model) model.nv (own_motion moved) (omega arith))
      (moving_world sizes sizes-is_adding (parent_of model.bodies) (body_of model.dofs) (first_dof model.bodies) (length model.bodies) model.nv (layout_of model) model.nv (own_motion_width moved) (omega arith))

  drift_of_world : drift_to rule moved model.nv 0 ≡ no_measure
  unfolding drift_to
  drift_of_world =
      ap₂ (λ s w. measured s w)
      (moving_world vectors vectors-is_adding (parent_of model.bodies) (body_of model.dofs) (first_dof model.bodies) (length model.bodies) model.nv (layout_of model) model.nv (own_drift moved) (omega arith))
      (moving_world sizes sizes-is_adding (parent_of model.bodies) (body_of model.dofs) (first_dof model.bodies) (length model.bodies) model.nv (layout_of model) model.nv (own_drift_width rule moved) (omega arith))

  -- what carries the first dof of the next body is the motion of its parent
  pub next_carrier : (k : ℕ) → CarriesNext model k → carrier_at rule moved (body model.bodies k).dofadr ≡ settled_by rule 32 (motion_to moved model.nv k)
  next_carrier k h =
      sym (own_carrier rule moved (body model.bodies k).dofadr (k + 1) h.first.base_ h.first.body_)
      ∙ ap (settled_by rule 32) (sym (motion_begins k h.next) ∙ ap (motion_to moved model.nv) h.parent_)

  -- ---- what the lists hold
  pub carried_world : {K R W : Type 0} (width : R → ℕ) (wide : W → ℕ) (x : Bias K R W) → totals_at wide x.motion 0 ≡ no_measure → totals_at wide x.drift 0 ≡ no_measure
      → IsCarried rule width wide moved 0 (place model 0) x
  carried_world width wide x e f =
      let none : place model 0 ≡ 0 = place_none model in
      record {
        turn_ = λ i h. absurd (omega arith);
        small = λ i h. absurd (omega arith);
        rates = λ i h. absurd (omega arith);
        motion_ = λ k h. (let z : k ≡ 0 = omega arith in ap (totals_at wide x.motion) z ∙ e ∙ sym motion_of_world ∙ ap (motion_to moved model.nv) (sym z));
        drift_ = λ k h. (let z : k ≡ 0 = omega arith in ap (totals_at wide x.drift) z ∙ f ∙ sym drift_of_world ∙ ap (drift_to rule moved model.nv) (sym z));
      }

  pub begun_first : {K R W : Type 0} (width : R → ℕ) (wide : W → ℕ) (b : ℕ) (x y : Bias K R W) → b < length model.bodies
      → IsCarried rule width wide moved b (body model.bodies b).dofadr x → y.turn ≡ x.turn
      → ((k : ℕ) → k ≢ b + 1 → totals_at wide y.motion k ≡ totals_at wide x.motion k) → ((k : ℕ) → k ≢ b + 1 → totals_at wide y.drift k ≡ totals_at wide x.drift k)
      → totals_at wide y.motion (b + 1) ≡ totals_at wide x.motion (body model.bodies b).parent → totals_at wide y.drift (b + 1) ≡ totals_at wide x.drift (body model.bodies b).parent
      → IsBegun rule width wide moved b (body model.bodies b).dofadr y
  begun_first width wide b x y h carried turn motions drifts motion drift = record {
    earlier = record {
      turn_ = λ i l. ap (λ xs. numbers_at width xs i) turn ∙ carried.turn_ i l;
      small = λ i l. subst (λ (s : Measured). IsWithin s (2 ^ 48) radius_limit) (ap (λ xs. numbers_at width xs i) (sym turn)) (carried.small i l);
      rates = carried.rates;
      motion_ = λ k l. motions k (λ q. omega arith) ∙ carried.motion_ k l;
      drift_ = λ k l. drifts k (λ q. omega arith) ∙ carried.drift_ k l;
    };
    motion_here = motion ∙ carried.motion_ (body model.bodies b).parent (model.of_bodies.parents b h) ∙ motion_begins b h;
    drift_here = drift ∙ carried.drift_ (body model.bodies b).parent (model.of_bodies.parents b h) ∙ drift_begins b h;
  }

  pub carried_more : {K R W : Type 0} (width : R → ℕ) (wide : W → ℕ) (b j : ℕ) (x : Bias K R W) → b < length model.bodies → j ≡ place model (b + 1)
      → IsBegun rule width wide moved b j x → IsCarried rule width wide moved (b + 1) j x
  carried_more width wide b j x h e begun = record {
    turn_ = begun.earlier.turn_;
    small = begun.earlier.small;
    rates = begun.earlier.rates;
    motion_ = λ k l. elim (cases_eq k (b + 1)) [
      | inl q ↦ ap (totals_at wide x.motion) q ∙ begun.motion_here ∙ ap (λ (n : ℕ). motion_to moved n (b + 1)) e ∙ motion_ends b h ∙ ap (motion_to moved model.nv) (sym q)
      | inr q ↦ begun.earlier.motion_ k (omega arith)
    ];
    drift_ = λ k l. elim (cases_eq k (b + 1)) [
      | inl q ↦ ap (totals_at wide x.drift) q ∙ begun.drift_here ∙ ap (λ (n : ℕ). drift_to rule moved n (b + 1)) e ∙ drift_ends b h ∙ ap (drift_to rule moved model.nv) (sym q)
      | inr q ↦ begun.earlier.drift_ k (omega arith)
    ];
  }

  pub next_velocity : {K R W : Type 0} (width : R → ℕ) (wide : W → ℕ) (x : Bias K R W) → IsCarried rule width wide moved (length model.bodies) model.nv x
      → (k : ℕ) → CarriesNext model k → IsVelocity rule (totals_at wide x.motion k) (numbers_at width x.turn (body model.bodies k).dofadr)
  next_velocity width wide x carried k h = record {
    value_ = carried.turn_ (body model.bodies k).dofadr h.first.there ∙ next_carrier k h ∙ ap (settled_by rule 32) (sym (carried.motion_ k (omega (arith, h.next))));
    within = carried.small (body model.bodies k).dofadr h.first.there;
  }
