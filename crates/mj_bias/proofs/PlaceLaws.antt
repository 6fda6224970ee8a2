-- Which dofs are of a body: those from the place where the earlier bodies' end.
use Rattle.std.proofs.Common.{◌≡◌, ℕ, suc, ◌+◌, ◌<◌, ◌≤◌, length, sym, ap, ◌∙◌, arith, inl, inr}
use Rattle.std.proofs.lemmas.Bool.{cases_lt}
use Rattle.fx_whole.specs.Sums.{sum_ℕ_to}
use Rattle.fx_whole.proofs.SumLaws.{sum_ℕ_to-more}
use Rattle.mj_types.specs.declared.model.Model.{Model}
use Rattle.mj_types.specs.Parts.{body, body_of}
use Rattle.mj_types.specs.Lawful.{velocities_before}
use Rattle.mj_bias.proofs.MovingLaws.{layout_of}

-- how many dofs the bodies before place b have
pub place : Model → ℕ → ℕ
place m b = velocities_before m.joints (sum_ℕ_to b (λ a. (body m.bodies a).jntnum))

pub place_none : (m : Model) → place m 0 ≡ 0
unfolding place
place_none m = let e : 0 ≡ 0 = omega arith in e

pub place_first : (m : Model) (b : ℕ) → b < length m.bodies → (body m.bodies b).dofadr ≡ place m b
unfolding place
place_first m b h = m.of_joints.dofadr b h ∙ ap (velocities_before m.joints) (m.of_joints.jntadr b h)

pub place_end : (m : Model) (b : ℕ) → b < length m.bodies → (body m.bodies b).dofadr + (body m.bodies b).dofnum ≡ place m (b + 1)
unfolding place
place_end m b h =
    m.of_joints.dofend b h
    ∙ ap (velocities_before m.joints) (ap (λ (n : ℕ). n + (body m.bodies b).jntnum) (m.of_joints.jntadr b h) ∙ sym (sum_ℕ_to-more b (λ a. (body m.bodies a).jntnum)))

pub place_all : (m : Model) → place m (length m.bodies) ≡ m.nv
unfolding place
place_all m = ap (velocities_before m.joints) (sym m.of_joints.whole) ∙ sym m.of_joints.velocities

pub place_le : (m : Model) (b : ℕ) → b ≤ length m.bodies → place m b ≤ m.nv
place_le m b h =
    elim (cases_lt b (length m.bodies)) [
      | inl l ↦ omega (arith, place_first m b l, (layout_of m).within (suc b) (omega arith))
      | inr l ↦ (let e : b ≡ length m.bodies = omega arith in omega (arith, ap (place m) e, place_all m))
    ]

-- a dof from there on, up to the next body's, is of the body
pub of_body : (m : Model) (b j : ℕ) → b < length m.bodies → place m b ≤ j → j < place m (b + 1) → body_of m.dofs j ≡ b + 1
of_body m b j h l k =
    let layout = layout_of m in
    let there : j < m.nv = omega (arith, place_le m (b + 1) (omega arith)) in
    let low : suc b ≤ body_of m.dofs j = layout.after j (suc b) there (omega arith) (omega (arith, place_first m b h)) in
    elim (cases_lt (b + 1) (length m.bodies)) [
      | inl n ↦ (let high = layout.before j (suc (b + 1)) there (omega arith) (omega (arith, place_first m (b + 1) n)) in omega arith)
      | inr n ↦ (let high = layout.on_body j there in omega arith)
    ]

-- and one past the next place is of a later body
pub of_later : (m : Model) (b : ℕ) → b < length m.bodies → place m (b + 1) < m.nv → b + 1 < body_of m.dofs (place m (b + 1))
of_later m b h l =
    elim (cases_lt (b + 1) (length m.bodies)) [
      | inl n ↦ (let high = (layout_of m).after (place m (b + 1)) (suc (b + 1)) l (omega arith) (omega (arith, place_first m (b + 1) n)) in omega arith)
      | inr n ↦ (let e : b + 1 ≡ length m.bodies = omega arith in absurd (omega (arith, ap (place m) e, place_all m)))
    ]
