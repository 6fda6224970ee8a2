-- The body of a dof.
use Rattle.std.proofs.Common.{ℕ, ◌-◌, ◌<◌, ◌≤◌, length, arith}
use Rattle.mj_types.specs.declared.model.Model.{Model}
use Rattle.mj_types.specs.Parts.{dof}

-- the body of a dof is there, and isn't the world
pub body_there : (m : Model) (d : ℕ) → d < m.nv → (1 ≤ (dof m.dofs d).body) × ((dof m.dofs d).body ≤ length m.bodies)
body_there m d h =
    let x = m.of_dofs.each d h in
    let at : (dof m.dofs d).joint - 1 < length m.joints = omega (arith, x.some, x.joint_) in (
      omega (arith, x.body_, m.of_joints.not_world ((dof m.dofs d).joint - 1) at),
      omega (arith, x.body_, m.of_joints.on_body ((dof m.dofs d).joint - 1) at),
    )
