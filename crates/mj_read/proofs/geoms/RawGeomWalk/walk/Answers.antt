use Rattle.std.proofs.Common.{w64}
use Rattle.std.proofs.lemmas.Int.{to_z-of_z}
use Rattle.mj_form.proofs.Steps.{step-then, step-next, step-end}
use Rattle.mj_read.specs.Tables.{geom}
use Rattle.mj_read.proofs.geoms.RawGeomWalk.walk.Goals as goal

pub returns : goal.returns
unfolding geom
returns c =
    rw (to_z-of_z w64 c.whole_or-contype.result (record { sfits = c.whole_or-contype.type_inv }), to_z-of_z w64 c.whole_or-conaffinity.result (record { sfits = c.whole_or-conaffinity.type_inv }), to_z-of_z w64 c.whole_or-condim.result (record { sfits = c.whole_or-condim.type_inv }))
    (step-next c.only.ensures
    (step-then _ c.optional-name.ensures
    (step-then _ c.text_or-kind.ensures
    (step-next (rw c.has_size.ensures at c.must.ensures)
    (step-then _ c.optional-size.ensures
    (step-then _ c.numbers_or-pos.ensures
    (step-then _ c.numbers_or-quat.ensures
    (step-then _ c.whole_or-contype.ensures
    (step-then _ c.whole_or-conaffinity.ensures
    (step-then _ c.whole_or-condim.ensures
    (step-then _ c.numbers_or-friction.ensures
    (step-then _ c.number_or-margin.ensures
    (step-then _ c.filled-solref.ensures
    (step-then _ c.filled-solimp.ensures step-end))))))))))))))
