use Rattle.mj_form.proofs.Steps.{step-next, step-end}
use Rattle.mj_valid.specs.Start.{keyframe}
use Rattle.mj_valid.proofs.start.walk_keyframe.Goals as goal

pub returns : goal.returns
unfolding keyframe
returns c = step-next (c.judge.ensures _ c.given_qpos.ensures) (step-next (c.judge-2.ensures _ c.given_qvel.ensures) step-end)
