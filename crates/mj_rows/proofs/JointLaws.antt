-- Where the positions and the dofs of joints are.
use Rattle.std.proofs.Common.{◌≡◌, ℕ, suc, ◌+◌, ◌^◌, ◌<◌, ◌≤◌, length, unsigned_abs, subst, arith, le_trans}
use Rattle.fx_whole.proofs.SumLaws.{sum_ℕ_to-le}
use Rattle.mj_types.specs.declared.model.Model.{Model}
use Rattle.mj_types.specs.declared.state.State.{State}
use Rattle.mj_types.specs.declared.parts.JointKind.{JointKind}
use Rattle.mj_types.specs.declared.parts.JointKind.TheVariants.{Free, Ball, Hinge, Slide}
use Rattle.mj_types.specs.Lawful.{position_limit, positions_before, velocities_before}
use Rattle.mj_types.specs.States.{Fits}
use Rattle.mj_types.specs.Parts.{joint, position_count, velocity_count, number_at}
use Rattle.mj_types.proofs.ModelLaws.{some_velocity}
use Rattle.mj_rows.specs.Joints.{position}

-- each joint has a position
some_position : (k : JointKind) → 1 ≤ position_count k
some_position Free = omega arith
some_position Ball = omega arith
some_position Hinge = omega arith
some_position Slide = omega arith

limit_small : (k : JointKind) → position_limit k 0 ≤ 2 ^ 52
limit_small Free = omega arith
limit_small Ball = omega arith
limit_small Hinge = omega arith
limit_small Slide = omega arith

module _ (m : Model) (j : ℕ) (h : j < length m.joints) where
  pub dof_there : (joint m.joints j).dadr < m.nv
  dof_there =
      let one = some_velocity (joint m.joints j).kind in
      let up : velocities_before m.joints j + velocity_count (joint m.joints j).kind ≤ velocities_before m.joints (length m.joints)
      = sum_ℕ_to-le (suc j) (length m.joints) (λ i. velocity_count (joint m.joints i).kind) (omega (arith, h)) in
      omega (arith, one, up, m.of_joints.dadr j h, m.of_joints.velocities)

  pub position_there : (joint m.joints j).qadr < m.nq
  position_there =
      let one = some_position (joint m.joints j).kind in
      let up : positions_before m.joints j + position_count (joint m.joints j).kind ≤ positions_before m.joints (length m.joints)
      = sum_ℕ_to-le (suc j) (length m.joints) (λ i. position_count (joint m.joints i).kind) (omega (arith, h)) in
      omega (arith, one, up, m.of_joints.qadr j h, m.of_joints.positions)

  pub position_small : (s : State) → Fits m s → unsigned_abs (position m s j) ≤ 2 ^ 52
  position_small s fits =
      let one = some_position (joint m.joints j).kind in
      let at : (joint m.joints j).qadr + 0 ≡ (joint m.joints j).qadr = omega arith in
      subst (λ (p : ℕ). unsigned_abs (number_at s.q p) ≤ 2 ^ 52) at
      (le_trans (fits.positions.each j 0 h (omega (arith, one))) (limit_small (joint m.joints j).kind))
