use Rattle.mj_form.proofs.Steps.{step-then, step-next, step-end}
use Rattle.mj_walk.specs.Tables.{geom}
use Rattle.mj_walk.proofs.geoms.walk_geom.Goals as goal

pub returns : goal.returns
unfolding geom
returns c =
    (step-next (c.judge.ensures _ c.geom_name.ensures)
    (step-then _ (c.judge-kind.ensures _ c.geom_kind_of.ensures)
    (step-then _ (c.judge-extent.ensures _ c.size.ensures)
    (step-then _ c.judge_vector-pos.ensures
    (step-then _ c.judge_rotation-quat.ensures
    (step-then _ c.judge_whole-contype.ensures
    (step-then _ c.judge_whole-conaffinity.ensures
    (step-then _ (c.judge-dim.ensures _ c.condim.ensures)
    (step-then _ c.judge_friction-friction.ensures
    (step-then _ c.judge_number-margin.ensures
    (step-then _ c.judge_soft-soft.ensures step-end)))))))))))
