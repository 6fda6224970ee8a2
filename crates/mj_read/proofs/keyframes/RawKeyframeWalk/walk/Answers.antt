use Rattle.mj_form.proofs.Steps.{step-then, step-next, step-end}
use Rattle.mj_read.specs.Tables.{keyframe}
use Rattle.mj_read.proofs.keyframes.RawKeyframeWalk.walk.Goals as goal

pub returns : goal.returns
unfolding keyframe
returns c =
    (step-next c.only.ensures
    (step-then _ c.optional-qpos.ensures
    (step-then _ c.optional-qvel.ensures step-end)))
