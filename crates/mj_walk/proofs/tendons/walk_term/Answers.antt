use Rattle.mj_form.proofs.Steps.{step-then, step-end}
use Rattle.mj_walk.specs.Tables.{term}
use Rattle.mj_walk.proofs.tendons.walk_term.Goals as goal

pub returns : goal.returns
unfolding term
returns c =
    (step-then _ (c.judge-joint.ensures _ c.term_number.ensures)
    (step-then _ c.judge_size-coef.ensures step-end))
