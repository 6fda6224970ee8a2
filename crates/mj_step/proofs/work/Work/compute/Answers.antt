use Rattle.std.proofs.Common.{sym, ap, ◌∙◌}
use Rattle.std.proofs.lemmas.Result.{err_from_is_err_and}
use Rattle.fx_whole.proofs.FirstLaws.{stop_first, pass_first}
use Rattle.mj_euler.specs.Advance.{state_fault}
use Rattle.mj_types.specs.declared.dual.Dual.{Dual}
use Rattle.mj_types.specs.declared.rows.StepReport.{StepReport}
use Rattle.mj_types.specs.Parts.{number_at}
use Rattle.mj_types.specs.StepValues.{dual_values}
use Rattle.mj_step.specs.Steps.{step_fault}
use Rattle.mj_step.proofs.CertifiedLaws.{told-certified}
use Rattle.mj_step.proofs.ForceLaws.{solved-same}
use Rattle.mj_step.proofs.GapLaws.{gap-small}
use Rattle.mj_step.proofs.PushLaws.{can_push-same}
use Rattle.mj_step.proofs.work.Work.compute.Goals as goal

pub push_constraints-requires-clause-in_range : goal.push_constraints-requires-clause-in_range
push_constraints-requires-clause-in_range c = sym c.in_ok-constrain.ensures.first

pub accelerate-requires-clause-in_range : goal.accelerate-requires-clause-in_range
accelerate-requires-clause-in_range c = sym c.in_ok-accelerate_freely.ensures.first

pub returns-in_err-weigh-clause-first : goal.returns-in_err-weigh-clause-first
unfolding step_fault
returns-in_err-weigh-clause-first c =
    let r = err_from_is_err_and c.from_residual.result c.from_residual.ensures.1 in
    rw (r.1, r.2)
    (stop_first _ _ _ c.in_err-weigh.ensures.first)

pub returns-in_err-push-clause-first : goal.returns-in_err-push-clause-first
unfolding step_fault
returns-in_err-push-clause-first c =
    let r = err_from_is_err_and c.from_residual-in_err-push.result c.from_residual-in_err-push.ensures.1 in
    rw (r.1, r.2)
    (pass_first _ _ _ c.in_ok-weigh.ensures.first
    (stop_first _ _ _ c.in_err-push.ensures.first))

pub returns-in_err-accelerate_freely-clause-first : goal.returns-in_err-accelerate_freely-clause-first
unfolding step_fault
returns-in_err-accelerate_freely-clause-first c =
    let r = err_from_is_err_and c.from_residual-in_err-accelerate_freely.result c.from_residual-in_err-accelerate_freely.ensures.1 in
    rw (r.1, r.2)
    (pass_first _ _ _ c.in_ok-weigh.ensures.first
    (pass_first _ _ _ c.in_ok-push.ensures.first
    (stop_first _ _ _ c.in_err-accelerate_freely.ensures.first)))

pub returns-in_err-constrain-clause-first : goal.returns-in_err-constrain-clause-first
unfolding step_fault
returns-in_err-constrain-clause-first c =
    let r = err_from_is_err_and c.from_residual-in_err-constrain.result c.from_residual-in_err-constrain.ensures.1 in
    rw (r.1, r.2)
    (pass_first _ _ _ c.in_ok-weigh.ensures.first
    (pass_first _ _ _ c.in_ok-push.ensures.first
    (pass_first _ _ _ c.in_ok-accelerate_freely.ensures.first
    (stop_first _ _ _ c.in_err-constrain.ensures.first))))

pub returns-in_err-enclose-clause-first : goal.returns-in_err-enclose-clause-first
unfolding step_fault
returns-in_err-enclose-clause-first c =
    let r = err_from_is_err_and c.from_residual-in_err-enclose.result c.from_residual-in_err-enclose.ensures.1 in
    rw (r.1, r.2)
    (pass_first _ _ _ c.in_ok-weigh.ensures.first
    (pass_first _ _ _ c.in_ok-push.ensures.first
    (pass_first _ _ _ c.in_ok-accelerate_freely.ensures.first
    (pass_first _ _ _ c.in_ok-constrain.ensures.first
    (stop_first _ _ _ c.in_err-enclose.ensures.first)))))

pub returns-in_err-push_constraints-clause-first : goal.returns-in_err-push_constraints-clause-first
unfolding step_fault
returns-in_err-push_constraints-clause-first c =
    let r = err_from_is_err_and c.from_residual-in_err-push_constraints.result c.from_residual-in_err-push_constraints.ensures.1 in
    rw (r.1, r.2)
    (pass_first _ _ _ c.in_ok-weigh.ensures.first
    (pass_first _ _ _ c.in_ok-push.ensures.first
    (pass_first _ _ _ c.in_ok-accelerate_freely.ensures.first
    (pass_first _ _ _ c.in_ok-constrain.ensures.first
    (pass_first _ _ _ c.in_ok-enclose.ensures.first
    (stop_first _ _ _ c.in_err-push_constraints.ensures.first))))))

pub returns-in_err-accelerate-clause-first : goal.returns-in_err-accelerate-clause-first
unfolding step_fault
returns-in_err-accelerate-clause-first c =
    let r = err_from_is_err_and c.from_residual-in_err-accelerate.result c.from_residual-in_err-accelerate.ensures.1 in
    rw (r.1, r.2)
    (pass_first _ _ _ c.in_ok-weigh.ensures.first
    (pass_first _ _ _ c.in_ok-push.ensures.first
    (pass_first _ _ _ c.in_ok-accelerate_freely.ensures.first
    (pass_first _ _ _ c.in_ok-constrain.ensures.first
    (pass_first _ _ _ c.in_ok-enclose.ensures.first
    (pass_first _ _ _ c.in_ok-push_constraints.ensures.first
    (stop_first _ _ _ c.in_err-accelerate.ensures.first)))))))

pub returns-in_err-integrate-clause-first : goal.returns-in_err-integrate-clause-first
unfolding step_fault
returns-in_err-integrate-clause-first c =
    let r = err_from_is_err_and c.from_residual-in_err-integrate.result c.from_residual-in_err-integrate.ensures.1 in
    rw (r.1, r.2)
    (pass_first _ _ _ c.in_ok-weigh.ensures.first
    (pass_first _ _ _ c.in_ok-push.ensures.first
    (pass_first _ _ _ c.in_ok-accelerate_freely.ensures.first
    (pass_first _ _ _ c.in_ok-constrain.ensures.first
    (pass_first _ _ _ c.in_ok-enclose.ensures.first
    (pass_first _ _ _ c.in_ok-push_constraints.ensures.first
    (pass_first _ _ _ c.in_ok-accelerate.ensures.first
    (c.in_err-integrate.ensures.first
    ∙ ap (λ xs. state_fault c.args.model.now c.args.state.now (number_at xs)) c.as_slice.ensures.value
    ∙ ap (state_fault c.args.model.now c.args.state.now) c.in_ok-accelerate.ensures.accel.value))))))))

pub returns-clause-first : goal.returns-clause-first
unfolding step_fault
returns-clause-first c =
    pass_first _ _ _ c.in_ok-weigh.ensures.first
    (pass_first _ _ _ c.in_ok-push.ensures.first
    (pass_first _ _ _ c.in_ok-accelerate_freely.ensures.first
    (pass_first _ _ _ c.in_ok-constrain.ensures.first
    (pass_first _ _ _ c.in_ok-enclose.ensures.first
    (pass_first _ _ _ c.in_ok-push_constraints.ensures.first
    (pass_first _ _ _ c.in_ok-accelerate.ensures.first
    (c.in_ok-integrate.ensures.first
    ∙ ap (λ xs. state_fault c.args.model.now c.args.state.now (number_at xs)) c.as_slice.ensures.value
    ∙ ap (state_fault c.args.model.now c.args.state.now) c.in_ok-accelerate.ensures.accel.value)))))))

pub returns-clause-gap : goal.returns-clause-gap
returns-clause-gap c =
    let told = c.fill_report.ensures.report in
    gap-small c.args.model.now c.args.state.now c.args.controls.now _ (sym c.in_ok-enclose.ensures.first) (ap (λ x. x.cost) told) (ap (λ x. x.bound) told)

pub returns-clause-enclosed : goal.returns-clause-enclosed
returns-clause-enclosed c =
    let same = c.fill_report.ensures.dual ∙ c.accelerate.ensures.dual ∙ c.push_constraints.ensures.dual ∙ c.enclose.ensures.dual in
    let last = c.fill_report.new.self in
    told-certified c.args.model.now c.args.state.now c.args.controls.now last.next last.dual last.report
    (ap (λ (d : Dual). dual_values d) same ∙ c.in_ok-constrain.ensures.rows.dual_) c.fill_report.ensures.report

pub returns-clause-forces : goal.returns-clause-forces
returns-clause-forces c =
    let rows = c.fill_report.ensures.rows ∙ c.accelerate.ensures.rows ∙ c.push_constraints.ensures.rows in
    let dual = c.fill_report.ensures.dual ∙ c.accelerate.ensures.dual ∙ c.push_constraints.ensures.dual in
    let forces = c.fill_report.ensures.forces ∙ ap (λ (r : StepReport). r.forces) (c.accelerate.ensures.report ∙ c.push_constraints.ensures.report) in
    can_push-same c.args.model.now.nv _ _ _ _ _ _ rows dual forces c.push_constraints.ensures.can

pub returns-clause-solved : goal.returns-clause-solved
returns-clause-solved c =
    let dual = c.fill_report.ensures.dual ∙ c.accelerate.ensures.dual ∙ c.push_constraints.ensures.dual in
    let forces = c.fill_report.ensures.forces ∙ ap (λ (r : StepReport). r.forces) (c.accelerate.ensures.report ∙ c.push_constraints.ensures.report) in
    solved-same _ _ _ _ dual forces c.in_ok-enclose.ensures.solved
