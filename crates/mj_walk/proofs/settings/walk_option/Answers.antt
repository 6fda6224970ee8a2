use Rattle.mj_form.proofs.Steps.{step-then, step-next, step-end}
use Rattle.mj_walk.specs.Tables.{option}
use Rattle.mj_walk.proofs.settings.walk_option.Goals as goal

pub returns : goal.returns
unfolding option
returns c =
    (step-then _ c.judge_number-h.ensures
    (step-then _ c.judge_vector-gravity.ensures
    (step-then _ c.judge_whole-iterations.ensures
    (step-then _ c.judge_number-tolerance.ensures
    (step-then _ c.judge_whole-njmax.ensures
    (step-next c.judge_text.ensures
    (step-next c.judge_text-2.ensures
    (step-next c.judge_text-3.ensures step-end))))))))
