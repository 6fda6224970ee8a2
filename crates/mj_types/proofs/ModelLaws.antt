-- The joints of a model and the roots of its trees.
use Rattle.std.proofs.Common.{◌≡◌, ℕ, zero, suc, ◌+◌, ◌-◌, ◌<◌, ◌≤◌, ◌==◌, length, ◌∙◌, arith, inl, inr}
use Rattle.std.proofs.lemmas.Bool.{cases_eq, eq-eqb, ne_eqb, cond-true, cond-false}
use Rattle.mj_types.specs.declared.model.Model.{Model}
use Rattle.mj_types.specs.declared.parts.JointKind.{JointKind}
use Rattle.mj_types.specs.declared.parts.JointKind.TheVariants.{Free, Ball, Hinge, Slide}
use Rattle.mj_types.specs.Lawful.{velocities_before}
use Rattle.mj_types.specs.Parts.{body, joint, velocity_count}

-- ---- each joint has a velocity, so there are at most 64
pub some_velocity : (k : JointKind) → 1 ≤ velocity_count k
some_velocity Free = omega arith
some_velocity Ball = omega arith
some_velocity Hinge = omega arith
some_velocity Slide = omega arith

many_velocities : (m : Model) (n : ℕ) → n ≤ velocities_before m.joints n
many_velocities m zero = omega arith
many_velocities m (suc n) = omega (arith, many_velocities m n, some_velocity (joint m.joints n).kind)

pub few_joints : (m : Model) → length m.joints ≤ 64
few_joints m = omega (arith, many_velocities m (length m.joints), m.of_joints.velocities, m.of_joints.few)

-- ---- the root of a body's tree stands at the body or before it
pub root_there : (m : Model) (b : ℕ) → b < length m.bodies → (1 ≤ (body m.bodies b).root) × ((body m.bodies b).root ≤ b + 1)
root_there m b h = upto (b + 1) b (omega arith) h
  where
    upto : (n b : ℕ) → b < n → b < length m.bodies → (1 ≤ (body m.bodies b).root) × ((body m.bodies b).root ≤ b + 1)
    upto zero b l h = absurd (omega arith)
    upto (suc n) b l h =
        let p = (body m.bodies b).parent in
        elim (cases_eq p 0) [
          | inl e ↦ (let r : (body m.bodies b).root ≡ suc b = m.of_bodies.roots b h ∙ cond-true (p == 0) (suc b) (body m.bodies (p - 1)).root (eq-eqb p 0 e) in (omega arith, omega arith))
          | inr e ↦ (
              let r : (body m.bodies b).root ≡ (body m.bodies (p - 1)).root = m.of_bodies.roots b h ∙ cond-false (p == 0) (suc b) (body m.bodies (p - 1)).root (ne_eqb p 0 e) in
              let le : p ≤ b = m.of_bodies.parents b h in
              let up = upto n (p - 1) (omega arith) (omega arith) in
              (omega arith, omega arith))
        ]
