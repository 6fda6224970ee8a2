use Rattle.mj_form.proofs.Steps.{step-then, step-next, step-end}
use Rattle.mj_read.specs.Tables.{joint}
use Rattle.mj_read.proofs.joints.RawJointWalk.walk.Goals as goal

pub returns : goal.returns
unfolding joint
returns c =
    (step-next c.only_joint_keys.ensures
    (step-then _ c.optional-name.ensures
    (step-then _ c.text_or-kind.ensures
    (step-then _ c.numbers_or-pos.ensures
    (step-then _ c.numbers_or-axis.ensures
    (step-then _ c.optional-range.ensures
    (step-then _ c.number_or-margin.ensures
    (step-then _ c.number_or-stiffness.ensures
    (step-then _ c.number_or-damping.ensures
    (step-then _ c.number_or-springref.ensures
    (step-then _ c.number_or-armature.ensures
    (step-then _ c.number_or-frictionloss.ensures
    (step-then _ c.filled-solreflimit.ensures
    (step-then _ c.filled-solimplimit.ensures
    (step-then _ c.filled-solreffriction.ensures
    (step-then _ c.filled-solimpfriction.ensures step-end))))))))))))))))
