use Rattle.mj_form.proofs.Steps.{step-then, step-next, step-end}
use Rattle.mj_read.specs.Tables.{body}
use Rattle.mj_read.proofs.bodies.RawBodyWalk.walk.Goals as goal

pub returns : goal.returns
unfolding body
returns c =
    (step-next c.only.ensures
    (step-then _ c.required-name.ensures
    (step-then _ c.text_or-parent.ensures
    (step-then _ c.numbers_or-pos.ensures
    (step-then _ c.numbers_or-quat.ensures
    (step-then _ c.inside-inertial.ensures
    (step-then _ c.tables-joint.ensures
    (step-then _ c.tables-geom.ensures step-end))))))))
