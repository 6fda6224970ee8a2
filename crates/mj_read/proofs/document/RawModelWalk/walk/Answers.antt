use Rattle.std.proofs.Common.{w64}
use Rattle.std.proofs.lemmas.Int.{to_z-of_z}
use Rattle.mj_form.proofs.Steps.{step-then, step-next, step-end}
use Rattle.mj_read.specs.Document.{model}
use Rattle.mj_read.proofs.document.RawModelWalk.walk.Goals as goal

pub returns : goal.returns
unfolding model
returns c =
    rw (to_z-of_z w64 c.whole_or-format.result (record { sfits = c.whole_or-format.type_inv }))
    (step-next c.only_model_keys.ensures
    (step-then _ c.whole_or-format.ensures
    (step-then _ c.inside_or_empty-option.ensures
    (step-then _ c.tables-body.ensures
    (step-then _ c.tables-geom.ensures
    (step-then _ c.tables-tendon.ensures
    (step-then _ c.tables-motor.ensures
    (step-then _ c.tables-equality.ensures
    (step-then _ c.inside-keyframe.ensures step-end)))))))))
