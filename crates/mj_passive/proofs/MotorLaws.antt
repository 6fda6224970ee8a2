-- What a motor drives, and what it adds there.
use Rattle.std.proofs.Common.{◌≡◌, ℕ, ◌-◌, ◌<◌, ◌==◌, true, ◌&&◌, nat_lt, nat_le, ℤ, ◌+ℤ◌, List, length, sym, ap, ap₂, ◌∙◌}
use Rattle.std.proofs.lemmas.Bool.{and_parts, ltb-true, leb-true}
use Rattle.fx_whole.specs.Sums.{when}
use Rattle.mj_types.specs.declared.model.Model.{Model}
use Rattle.mj_types.specs.declared.parts.Joint.{Joint}
use Rattle.mj_types.specs.declared.parts.Tendon.{Tendon}
use Rattle.mj_types.specs.declared.parts.Motor.{Motor}
use Rattle.mj_types.specs.declared.parts.Drive.TheVariants as drive
use Rattle.mj_types.specs.Lawful.{IsScalar, is_scalar, drives}
use Rattle.mj_types.specs.Parts.{joint, dof, motor}
use Rattle.mj_passive.specs.Forces.{motor_force, is_on_joint, joint_push}
use Rattle.mj_passive.proofs.JointLaws.{dof_is}

pub driven_joint : (joints : List Joint) (tendons : List Tendon) (n : ℕ) → drives joints tendons (drive.Joint n) ≡ true → IsScalar joints n
driven_joint joints tendons n e =
    let a = and_parts (nat_lt 0 n) (nat_le n (length joints) && is_scalar (joint joints (n - 1)).kind) e in
    let b = and_parts (nat_le n (length joints)) (is_scalar (joint joints (n - 1)).kind) a.1 in
    record { some = ltb-true 0 n a.0; there = leb-true n (length joints) b.0; kind = b.1 }

-- the force goes to the dof of the joint that is driven
pub pushed : (m : Model) (k n d : ℕ) (a : Motor) (u f x y : ℤ) (p : ℕ) → motor m.motors k ≡ a → a.drive ≡ drive.Joint n → IsScalar m.joints n → d < m.nv
    → p ≡ (joint m.joints (n - 1)).dadr → f ≡ motor_force a u → y ≡ x +ℤ when (d == p) f → y ≡ x +ℤ joint_push m k (dof m.dofs d).joint u
pushed m k n d a u f x y p e g is h there force new =
    new ∙ ap (λ (v : ℤ). x +ℤ v)
    (ap₂ (λ b (v : ℤ). when b v) (ap (λ (q : ℕ). d == q) there ∙ dof_is m n is d h ∙ ap (λ w. is_on_joint (dof m.dofs d).joint w) (sym g)) force
    ∙ ap (λ (b : Motor). when (is_on_joint (dof m.dofs d).joint b.drive) (motor_force b u)) (sym e))
