use Rattle.mj_form.proofs.Steps.{step-then, step-next, step-end}
use Rattle.mj_read.specs.Tables.{tendon}
use Rattle.mj_read.proofs.tendons.RawTendonWalk.walk.Goals as goal

pub returns : goal.returns
unfolding tendon
returns c =
    (step-next c.only.ensures
    (step-then _ c.optional-name.ensures
    (step-then _ c.required_tables-joint.ensures
    (step-then _ c.optional-range.ensures
    (step-then _ c.number_or-margin.ensures
    (step-then _ c.number_or-stiffness.ensures
    (step-then _ c.number_or-damping.ensures
    (step-then _ c.filled-solreflimit.ensures
    (step-then _ c.filled-solimplimit.ensures
    (step-then _ c.number_or-springlength.ensures step-end))))))))))
