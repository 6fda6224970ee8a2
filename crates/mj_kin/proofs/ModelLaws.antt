-- The lists of a model: what is named is there.
use Rattle.std.proofs.Common.{◌≡◌, ℕ, zero, suc, ◌+◌, ◌-◌, ◌<◌, ◌≤◌, ◌==◌, false, length, ap, ◌∙◌, arith, inl, inr, add-one}
use Rattle.std.proofs.lemmas.Bool.{cases_Bool, cases_eq, eq-eqb, ne_eqb, cond-true, cond-false}
use Rattle.fx_whole.specs.Sums.{sum_ℕ_to}
use Rattle.fx_whole.proofs.SumLaws.{sum_ℕ_to-le}
use Rattle.mj_types.specs.declared.model.Model.{Model}
use Rattle.mj_types.specs.declared.state.State.{State}
use Rattle.mj_types.specs.declared.parts.JointKind.{JointKind}
use Rattle.mj_types.specs.declared.parts.JointKind.TheVariants.{Free, Ball, Hinge, Slide}
use Rattle.mj_types.specs.Lawful.{is_free, velocities_before}
use Rattle.mj_types.specs.Parts.{body, joint, position_count, velocity_count}
use Rattle.mj_types.specs.States.{Fits}
use Rattle.mj_types.proofs.ModelLaws.{few_joints}
use Rattle.mj_kin.specs.Poses.{own_joint}
use Rattle.mj_kin.specs.Working.{HasPositions}

-- ---- joints
-- the joints of a body
pub joint_there : (m : Model) (b i : ℕ) → b < length m.bodies → i < (body m.bodies b).jntnum → (body m.bodies b).jntadr + i < length m.joints
joint_there m b i h k =
    omega (arith, m.of_joints.jntadr b h, m.of_joints.whole, sum_ℕ_to-le (suc b) (length m.bodies) (λ a. (body m.bodies a).jntnum) h)

pub joints_end : (m : Model) (b : ℕ) → b < length m.bodies → (body m.bodies b).jntadr + (body m.bodies b).jntnum ≡ sum_ℕ_to (b + 1) (λ a. (body m.bodies a).jntnum)
joints_end m b h = omega (arith, m.of_joints.jntadr b h, ap (λ (n : ℕ). sum_ℕ_to n (λ a. (body m.bodies a).jntnum)) (add-one b))

-- a joint that isn't its body's last one is not free
pub not_free : (m : Model) (b i : ℕ) → b < length m.bodies → i + 1 < (body m.bodies b).jntnum → is_free (own_joint m b i).kind ≡ false
not_free m b i h k =
    elim (cases_Bool (is_free (own_joint m b i).kind)) [
      | inl e ↦ absurd (omega (arith, m.of_joints.alone b i h (omega arith) e))
      | inr e ↦ e
    ]

-- the positions and the velocities of a joint
pub positions_there : (m : Model) (s : State) → Fits m s → (j : ℕ) → j < length m.joints → HasPositions s (joint m.joints j)
positions_there m s fits j h = record { there = there; size = λ i k. fits.positions.each j i h k }
  where
    there : (i : ℕ) → i < position_count (joint m.joints j).kind → (joint m.joints j).qadr + i < length s.q
    there i k = omega (arith, fits.positions.many, m.of_joints.positions, m.of_joints.qadr j h, sum_ℕ_to-le (suc j) (length m.joints) (λ (a : ℕ). position_count (joint m.joints a).kind) h)

pub velocities_end : (m : Model) (j : ℕ) → j < length m.joints → (joint m.joints j).dadr + velocity_count (joint m.joints j).kind ≤ m.nv
velocities_end m j h =
    omega (arith, m.of_joints.velocities, m.of_joints.dadr j h, sum_ℕ_to-le (suc j) (length m.joints) (λ (a : ℕ). velocity_count (joint m.joints a).kind) h)

-- what an earlier joint has comes before
pub velocity_before : (m : Model) (k j i : ℕ) → k < j → j < length m.joints → i < velocity_count (joint m.joints k).kind → (joint m.joints k).dadr + i < (joint m.joints j).dadr
velocity_before m k j i l h p =
    omega (arith, m.of_joints.dadr k (omega arith), m.of_joints.dadr j h, sum_ℕ_to-le (suc k) j (λ (a : ℕ). velocity_count (joint m.joints a).kind) l)

pub few_own : (m : Model) (b : ℕ) → b < length m.bodies → (body m.bodies b).jntnum ≤ 64
few_own m b h = omega (arith, few_joints m, m.of_joints.whole, sum_ℕ_to-le (suc b) (length m.bodies) (λ a. (body m.bodies a).jntnum) h)
