use Rattle.mj_form.proofs.Steps.{step-then, step-next, step-end}
use Rattle.mj_read.specs.Tables.{motor}
use Rattle.mj_read.proofs.motors.RawMotorWalk.walk.Goals as goal

pub returns : goal.returns
unfolding motor
returns c =
    (step-next c.only.ensures
    (step-then _ c.optional-name.ensures
    (step-next (rw c.names_drive.ensures at c.must.ensures)
    (step-then _ c.optional-joint.ensures
    (step-then _ c.optional-tendon.ensures
    (step-then _ c.number_or-gear.ensures
    (step-then _ c.optional-ctrlrange.ensures step-end)))))))
