use Rattle.mj_form.proofs.Steps.{step-then, step-next, step-end}
use Rattle.mj_read.specs.Tables.{inertial}
use Rattle.mj_read.proofs.bodies.RawInertialWalk.walk.Goals as goal

pub returns : goal.returns
unfolding inertial
returns c =
    (step-next c.only.ensures
    (step-then _ c.numbers_or-pos.ensures
    (step-then _ c.numbers_or-quat.ensures
    (step-then _ c.required-mass.ensures
    (step-then _ c.numbers_or-diaginertia.ensures step-end)))))
