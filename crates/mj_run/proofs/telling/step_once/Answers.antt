use Rattle.std.proofs.lemmas.Result.{err_from_is_err_and}
use Rattle.mj_run.proofs.Steps.{told-stop, told-next}
use Rattle.mj_run.proofs.telling.step_once.Goals as goal

pub returns-in_err-take_step-clause-first : goal.returns-in_err-take_step-clause-first
returns-in_err-take_step-clause-first c =
    let r = err_from_is_err_and c.from_residual.result c.from_residual.ensures.1 in
    rw (r.1, r.2) (told-stop c.args.wants c.args.model.now c.args.runner.now.state c.args.controls.now _ c.in_err-take_step.ensures.first)

pub take_more-requires : goal.take_more-requires
take_more-requires c = (c.args.runner.now.state, c.args.controls.now, c.in_ok-take_step.ensures.stepped)

pub returns-in_err-take_more-clause-first : goal.returns-in_err-take_more-clause-first
returns-in_err-take_more-clause-first c =
    let s = c.args.runner.now.state in
    let u = c.args.controls.now in
    let r = err_from_is_err_and c.from_residual-in_err-take_more.result c.from_residual-in_err-take_more.ensures.1 in
    rw (r.1, r.2)
    (told-next c.args.wants c.args.model.now s u _ c.in_ok-take_step.ensures.first (c.in_err-take_more.ensures.first s u c.in_ok-take_step.ensures.stepped))

pub returns-clause-first : goal.returns-clause-first
returns-clause-first c =
    let s = c.args.runner.now.state in
    let u = c.args.controls.now in
    told-next c.args.wants c.args.model.now s u _ c.in_ok-take_step.ensures.first (c.in_ok-take_more.ensures.first s u c.in_ok-take_step.ensures.stepped)

pub returns-clause-stepped : goal.returns-clause-stepped
returns-clause-stepped c = c.in_ok-take_more.ensures.stepped c.args.runner.now.state c.args.controls.now c.in_ok-take_step.ensures.stepped

pub returns-clause-inverse : goal.returns-clause-inverse
returns-clause-inverse c = λ wanted. c.in_ok-take_more.ensures.inverse wanted c.args.runner.now.state c.args.controls.now c.in_ok-take_step.ensures.stepped
