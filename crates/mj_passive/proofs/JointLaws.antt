-- Where the positions and the dofs of hinges and slides are.
use Rattle.std.proofs.Common.{◌≡◌, ℕ, suc, ◌+◌, ◌-◌, ◌^◌, ◌<◌, ◌≤◌, ◌==◌, true, length, unsigned_abs, refl, sym, ap, ◌∙◌, subst, arith, inl, inr, le_trans}
use Rattle.std.proofs.lemmas.Bool.{cases_eq, eq-eqb, ne_eqb}
use Rattle.fx_whole.proofs.SumLaws.{sum_ℕ_to-le}
use Rattle.mj_types.specs.declared.model.Model.{Model}
use Rattle.mj_types.specs.declared.state.State.{State}
use Rattle.mj_types.specs.declared.parts.JointKind.{JointKind}
use Rattle.mj_types.specs.declared.parts.JointKind.TheVariants.{Free, Ball, Hinge, Slide}
use Rattle.mj_types.specs.Lawful.{IsScalar, is_scalar, position_limit, positions_before, velocities_before}
use Rattle.mj_types.specs.States.{Fits}
use Rattle.mj_passive.specs.Forces.{q_at, v_at}
use Rattle.mj_types.specs.Parts.{joint, dof, position_count, velocity_count, number_at}

-- a hinge and a slide have one position and one velocity
one_position : (k : JointKind) → is_scalar k ≡ true → position_count k ≡ 1
one_position Free e = cc
one_position Ball e = cc
one_position Hinge e = refl
one_position Slide e = refl

one_velocity : (k : JointKind) → is_scalar k ≡ true → velocity_count k ≡ 1
one_velocity Free e = cc
one_velocity Ball e = cc
one_velocity Hinge e = refl
one_velocity Slide e = refl

limit_small : (k : JointKind) → is_scalar k ≡ true → position_limit k 0 ≤ 2 ^ 52
limit_small Free e = cc
limit_small Ball e = cc
limit_small Hinge e = omega arith
limit_small Slide e = omega arith

module _ (m : Model) (n : ℕ) (is : IsScalar m.joints n) where
  place : n - 1 < length m.joints
  place = omega (arith, is.some, is.there)

  pub dof_there : (joint m.joints (n - 1)).dadr < m.nv
  dof_there =
      let one : velocity_count (joint m.joints (n - 1)).kind ≡ 1 = one_velocity (joint m.joints (n - 1)).kind is.kind in
      let up : velocities_before m.joints (n - 1) + velocity_count (joint m.joints (n - 1)).kind ≤ velocities_before m.joints (length m.joints)
      = sum_ℕ_to-le (suc (n - 1)) (length m.joints) (λ i. velocity_count (joint m.joints i).kind) (omega (arith, place)) in
      omega (arith, one, up, m.of_joints.dadr (n - 1) place, m.of_joints.velocities)

  pub position_there : (joint m.joints (n - 1)).qadr < m.nq
  position_there =
      let one : position_count (joint m.joints (n - 1)).kind ≡ 1 = one_position (joint m.joints (n - 1)).kind is.kind in
      let up : positions_before m.joints (n - 1) + position_count (joint m.joints (n - 1)).kind ≤ positions_before m.joints (length m.joints)
      = sum_ℕ_to-le (suc (n - 1)) (length m.joints) (λ i. position_count (joint m.joints i).kind) (omega (arith, place)) in
      omega (arith, one, up, m.of_joints.qadr (n - 1) place, m.of_joints.positions)

  -- a dof stands at the place of that joint exactly where it is of that joint
  pub dof_is : (d : ℕ) → d < m.nv → (d == (joint m.joints (n - 1)).dadr) ≡ ((dof m.dofs d).joint == n)
  dof_is d h =
      elim (cases_eq d (joint m.joints (n - 1)).dadr) [
        | inl e ↦ eq-eqb d (joint m.joints (n - 1)).dadr e ∙ sym (eq-eqb (dof m.dofs d).joint n (here e))
        | inr e ↦ ne_eqb d (joint m.joints (n - 1)).dadr e ∙ sym (ne_eqb (dof m.dofs d).joint n (λ f. e (there f)))
      ]
    where
      one : velocity_count (joint m.joints (n - 1)).kind ≡ 1
      one = one_velocity (joint m.joints (n - 1)).kind is.kind

      here : d ≡ (joint m.joints (n - 1)).dadr → (dof m.dofs d).joint ≡ n
      here e =
          let first : d ≡ (joint m.joints (n - 1)).dadr + 0 = omega arith in
          let number : suc (n - 1) ≡ n = omega (arith, is.some) in
          ap (λ (k : ℕ). (dof m.dofs k).joint) first ∙ m.of_dofs.joints_ (n - 1) 0 place (omega (arith, one)) ∙ number

      there : (dof m.dofs d).joint ≡ n → d ≡ (joint m.joints (n - 1)).dadr
      there f =
          let x = m.of_dofs.each d h in
          let part : (dof m.dofs d).part < velocity_count (joint m.joints (n - 1)).kind = subst (λ (k : ℕ). (dof m.dofs d).part < velocity_count (joint m.joints (k - 1)).kind) f x.part in
          let at : d ≡ (joint m.joints (n - 1)).dadr + (dof m.dofs d).part = subst (λ (k : ℕ). d ≡ (joint m.joints (k - 1)).dadr + (dof m.dofs d).part) f x.place in
          omega (arith, one, part, at)

  pub position_small : (s : State) → Fits m s → unsigned_abs (q_at m s n) ≤ 2 ^ 52
  position_small s fits =
      let one : position_count (joint m.joints (n - 1)).kind ≡ 1 = one_position (joint m.joints (n - 1)).kind is.kind in
      let at : (joint m.joints (n - 1)).qadr + 0 ≡ (joint m.joints (n - 1)).qadr = omega arith in
      subst (λ (p : ℕ). unsigned_abs (number_at s.q p) ≤ 2 ^ 52) at
      (le_trans (fits.positions.each (n - 1) 0 place (omega (arith, one))) (limit_small (joint m.joints (n - 1)).kind is.kind))

  pub velocity_small : (s : State) → Fits m s → unsigned_abs (v_at m s n) ≤ 2 ^ 52
  velocity_small s fits = omega (arith, fits.velocities.each (joint m.joints (n - 1)).dadr dof_there)
