use Rattle.mj_form.proofs.Steps.{step-then, step-next, step-end}
use Rattle.mj_walk.specs.Tables.{motor}
use Rattle.mj_walk.proofs.motors.walk_motor.Goals as goal

pub returns : goal.returns
unfolding motor
returns c =
    (step-next (c.judge.ensures _ c.motor_name.ensures)
    (step-then _ (c.judge-joint.ensures _ c.optional_scalar.ensures)
    (step-then _ (c.judge-drive.ensures _ c.drive_of.ensures)
    (step-then _ c.judge_size-gear.ensures
    (step-then _ c.judge_range-ctrlrange.ensures step-end)))))
