use Rattle.mj_form.proofs.Steps.{step-then, step-next, step-end}
use Rattle.mj_read.specs.Tables.{equality}
use Rattle.mj_read.proofs.equalities.RawEqualityWalk.walk.Goals as goal

pub returns : goal.returns
unfolding equality
returns c =
    (step-next c.only.ensures
    (step-then _ c.optional-name.ensures
    (step-then _ c.required-joint1.ensures
    (step-then _ c.optional-joint2.ensures
    (step-then _ c.filled-polycoef.ensures
    (step-then _ c.filled-solref.ensures
    (step-then _ c.filled-solimp.ensures step-end)))))))
