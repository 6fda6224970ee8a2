use Rattle.mj_form.proofs.Steps.{step-then, step-next, step-end}
use Rattle.mj_walk.specs.Tables.{tendon}
use Rattle.mj_walk.proofs.tendons.walk_tendon.Goals as goal

pub returns : goal.returns
unfolding tendon
returns c =
    (step-next (c.judge.ensures _ c.tendon_name.ensures)
    (step-next c.judge_some.ensures
    (step-then _ (rw c.as_slice.ensures at c.walk_terms-terms.ensures)
    (step-then _ c.judge_range-range.ensures
    (step-then _ c.judge_number-margin.ensures
    (step-then _ c.judge_number-stiffness.ensures
    (step-then _ c.judge_number-damping.ensures
    (step-then _ c.judge_soft-soft.ensures
    (step-then _ c.judge_size-springlength.ensures step-end)))))))))
