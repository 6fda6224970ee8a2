use Rattle.mj_form.proofs.Steps.{step-then, step-next, step-end}
use Rattle.mj_walk.specs.Tables.{body}
use Rattle.mj_walk.proofs.bodies.walk_body.Goals as goal

pub returns : goal.returns
unfolding body
returns c =
    (step-next (c.judge.ensures _ c.body_name.ensures)
    (step-then _ (c.judge-parent.ensures _ c.parent_number.ensures)
    (step-then _ c.judge_vector-pos.ensures
    (step-then _ c.judge_rotation-quat.ensures
    (step-then _ c.walk_inertia-inertia.ensures
    (step-then _ (rw c.as_slice.ensures at c.walk_joints-joints.ensures)
    (step-then _ (rw c.as_slice-2.ensures at c.walk_geoms-geoms.ensures) step-end)))))))
