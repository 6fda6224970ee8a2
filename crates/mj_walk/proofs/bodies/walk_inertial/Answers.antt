use Rattle.mj_form.proofs.Steps.{step-then, step-end}
use Rattle.mj_walk.specs.Tables.{inertial}
use Rattle.mj_walk.proofs.bodies.walk_inertial.Goals as goal

pub returns : goal.returns
unfolding inertial
returns c =
    (step-then _ c.judge_vector-pos.ensures
    (step-then _ c.judge_rotation-quat.ensures
    (step-then _ c.judge_number-mass.ensures
    (step-then _ c.judge_diagonal-diagonal.ensures step-end))))
