use Rattle.std.proofs.Common.{w64}
use Rattle.std.proofs.lemmas.Int.{to_z-of_z}
use Rattle.mj_form.proofs.Steps.{step-then, step-next, step-end}
use Rattle.mj_read.specs.Tables.{option}
use Rattle.mj_read.proofs.settings.RawOptionWalk.walk.Goals as goal

pub returns : goal.returns
unfolding option
returns c =
    rw (to_z-of_z w64 c.whole_or-iterations.result (record { sfits = c.whole_or-iterations.type_inv }), to_z-of_z w64 c.whole_or-njmax.result (record { sfits = c.whole_or-njmax.type_inv }))
    (step-next c.only.ensures
    (step-then _ c.number_or-timestep.ensures
    (step-then _ c.numbers_or-gravity.ensures
    (step-then _ c.whole_or-iterations.ensures
    (step-then _ c.number_or-tolerance.ensures
    (step-then _ c.whole_or-njmax.ensures
    (step-then _ c.text_or-integrator.ensures
    (step-then _ c.text_or-cone.ensures
    (step-then _ c.text_or-solver.ensures step-end)))))))))
