use Rattle.mj_form.proofs.Steps.{step-then, step-next, step-end}
use Rattle.mj_walk.specs.Tables.{equality}
use Rattle.mj_walk.proofs.equalities.walk_equality.Goals as goal

pub returns : goal.returns
unfolding equality
returns c =
    (step-next (c.judge.ensures _ c.equality_name.ensures)
    (step-then _ (c.judge-joint1.ensures _ c.scalar_number.ensures)
    (step-then _ (c.judge-joint2.ensures _ c.second_number.ensures)
    (step-then _ (c.judge-c.ensures _ c.coefficients.ensures)
    (step-then _ c.judge_soft-soft.ensures step-end)))))
