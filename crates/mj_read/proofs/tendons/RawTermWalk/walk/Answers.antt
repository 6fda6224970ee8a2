use Rattle.mj_form.proofs.Steps.{step-then, step-next, step-end}
use Rattle.mj_read.specs.Tables.{term}
use Rattle.mj_read.proofs.tendons.RawTermWalk.walk.Goals as goal

pub returns : goal.returns
unfolding term
returns c =
    (step-next c.only.ensures
    (step-then _ c.required-joint.ensures
    (step-then _ c.required-coef.ensures step-end)))
