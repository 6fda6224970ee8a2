use Rattle.std.proofs.Common.{◌≡◌, ap, ◌∙◌, subst, true}
use Rattle.mj_types.specs.declared.parts.Drive.{Drive}
use Rattle.mj_types.specs.declared.parts.Motor.{Motor}
use Rattle.mj_types.specs.Duals.{wide_at}
use Rattle.mj_types.specs.Lawful.{IsScalar, drives}
use Rattle.mj_types.specs.Parts.{no_motor}
use Rattle.mj_passive.proofs.MotorLaws.{driven_joint, pushed}
use Rattle.mj_passive.proofs.motors.push.Goals as goal

pub dof_of-requires : goal.dof_of-requires
dof_of-requires c =
    let m = c.args.model.now in
    driven_joint m.joints m.tendons c.in-Joint.number
    (subst (λ (w : Drive). drives m.joints m.tendons w ≡ true) (ap (λ (x : Motor). x.drive) (c.entry-motor.ensures no_motor) ∙ c.in-Joint.is) (m.of_motors.drive_ c.args.k c.requires.motor))

pub returns-in-Joint-clause-dofs : goal.returns-in-Joint-clause-dofs
returns-in-Joint-clause-dofs c d h =
    let m = c.args.model.now in
    let is : IsScalar m.joints c.in-Joint.number = driven_joint m.joints m.tendons c.in-Joint.number
    (subst (λ (w : Drive). drives m.joints m.tendons w ≡ true) (ap (λ (x : Motor). x.drive) (c.entry-motor.ensures no_motor) ∙ c.in-Joint.is) (m.of_motors.drive_ c.args.k c.requires.motor)) in
    pushed m c.args.k c.in-Joint.number d c.entry-motor.result.now c.args.control.now.mid c.force-force.result.raw (wide_at c.args.dofs.now d) (wide_at c.add_at.new.sums d) c.dof_of.result
    (c.entry-motor.ensures no_motor) c.in-Joint.is is h c.dof_of.ensures.place c.force-force.ensures.value (c.add_at.ensures d)
