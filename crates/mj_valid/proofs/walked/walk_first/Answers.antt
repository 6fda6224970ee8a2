use Rattle.mj_form.proofs.Steps.{step-then, step-next, step-end}
use Rattle.mj_valid.specs.Judging.{first}
use Rattle.mj_valid.proofs.walked.walk_first.Goals as goal

pub returns : goal.returns
unfolding first
returns c =
    (step-next c.walk_counts.ensures
    (step-then _ (c.judge-number.ensures _ c.format.ensures)
    (step-then _ c.walk_option-settings.ensures
    (step-then _ c.walk_bodies-parts.ensures
    (step-then _ c.walk_world-world.ensures step-end)))))
