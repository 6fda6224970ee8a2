use Rattle.std.proofs.Common.{ap, ◌∙◌}
use Rattle.std.proofs.lemmas.Result.{err_from_is_err_and}
use Rattle.mj_run.proofs.StepLaws.{can-separate, can-load, force-room, inverse-room, fault-told, inverse-held, stepped-with}
use Rattle.mj_run.proofs.telling.take_inverse.Goals as goal

pub separated-requires-clause-can : goal.separated-requires-clause-can
separated-requires-clause-can c =
    let held = c.requires in
    let accel = c.as_slice.ensures ∙ ap (λ r. r.accel) c.report-report.ensures in
    rw (c.jacobian.ensures, c.dual.ensures, c.smooth.ensures, accel) (can-separate c.args.model.now held.0 held.1 c.args.runner.now held.2)

pub separated-requires-clause-loads : goal.separated-requires-clause-loads
separated-requires-clause-loads c =
    let held = c.requires in
    let accel = c.as_slice.ensures ∙ ap (λ r. r.accel) c.report-report.ensures in
    rw (c.mass.ensures, accel, c.free_load.ensures) (can-load c.args.model.now held.0 held.1 c.args.runner.now held.2)

pub separated-requires-clause-step_room : goal.separated-requires-clause-step_room
separated-requires-clause-step_room c =
    let held = c.requires in
    rw (c.dual.ensures, c.report-report.ensures) (force-room c.args.model.now held.0 held.1 c.args.runner.now held.2)

pub separated-requires-clause-step_small : goal.separated-requires-clause-step_small
separated-requires-clause-step_small c = rw (c.dual.ensures, c.report-report.ensures) c.requires.2.can_push.forces_

pub separated-requires-clause-room : goal.separated-requires-clause-room
separated-requires-clause-room c =
    let held = c.requires in
    rw c.dual.ensures (inverse-room c.args.model.now held.0 held.1 c.args.runner.now held.2)

pub returns-in_err-separated-clause-first : goal.returns-in_err-separated-clause-first
returns-in_err-separated-clause-first c = λ s u has.
    let accel = c.as_slice.ensures ∙ ap (λ r. r.accel) c.report-report.ensures in
    let r = err_from_is_err_and c.from_residual.result c.from_residual.ensures.1 in
    rw (r.1, r.2)
    (c.in_err-separated.ensures.first
    ∙ fault-told c.args.model.now s u c.args.runner.now has _ _ _ _ _ _ _ c.dual.ensures c.jacobian.ensures (ap (λ r. r.forces) c.report-report.ensures) c.smooth.ensures accel c.mass.ensures c.free_load.ensures)

pub returns-in_err-separated-clause-stepped : goal.returns-in_err-separated-clause-stepped
returns-in_err-separated-clause-stepped c = λ s u has. stepped-with c.args.model.now s u c.args.runner.now has c.separated.new.out (c.in_err-separated.ensures.room ∙ has.room)

pub returns-clause-first : goal.returns-clause-first
returns-clause-first c = λ s u has.
    let accel = c.as_slice.ensures ∙ ap (λ r. r.accel) c.report-report.ensures in
    c.in_ok-separated.ensures.first
    ∙ fault-told c.args.model.now s u c.args.runner.now has _ _ _ _ _ _ _ c.dual.ensures c.jacobian.ensures (ap (λ r. r.forces) c.report-report.ensures) c.smooth.ensures accel c.mass.ensures c.free_load.ensures

pub returns-clause-stepped : goal.returns-clause-stepped
returns-clause-stepped c = λ s u has. stepped-with c.args.model.now s u c.args.runner.now has c.separated.new.out (c.in_ok-separated.ensures.room ∙ has.room)

pub returns-clause-inverse : goal.returns-clause-inverse
returns-clause-inverse c = λ s u has.
    let accel = c.as_slice.ensures ∙ ap (λ r. r.accel) c.report-report.ensures in
    let did = c.in_ok-separated.ensures in
    inverse-held c.args.model.now s u c.args.runner.now has _ _ _ _ _ _ _ c.dual.ensures c.jacobian.ensures (ap (λ r. r.forces) c.report-report.ensures) c.smooth.ensures accel c.mass.ensures c.free_load.ensures
    c.separated.new.out did.values did.gap did.discrepancy
