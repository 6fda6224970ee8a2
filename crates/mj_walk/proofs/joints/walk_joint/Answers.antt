use Rattle.mj_form.proofs.Steps.{step-then, step-next, step-end}
use Rattle.mj_walk.specs.Tables.{joint}
use Rattle.mj_walk.proofs.joints.walk_joint.Goals as goal

pub returns : goal.returns
unfolding joint
returns c =
    (step-next (c.judge.ensures _ c.joint_name.ensures)
    (step-then _ (c.judge-kind.ensures _ c.joint_kind_of.ensures)
    (step-then _ c.judge_vector-pos.ensures
    (step-then _ c.judge_axis-axis.ensures
    (step-then _ c.judge_range-range.ensures
    (step-then _ c.judge_number-margin.ensures
    (step-then _ c.judge_number-stiffness.ensures
    (step-then _ c.judge_number-damping.ensures
    (step-then _ c.judge_size-springref.ensures
    (step-then _ c.judge_number-armature.ensures
    (step-then _ c.judge_number-frictionloss.ensures
    (step-then _ c.judge_soft-soft.ensures
    (step-then _ c.judge_soft-friction.ensures step-end)))))))))))))
