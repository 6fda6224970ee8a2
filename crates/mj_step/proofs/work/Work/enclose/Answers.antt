use Rattle.std.proofs.Common.{ap, ◌∙◌}
use Rattle.std.proofs.lemmas.Result.{err_from_is_err_and}
use Rattle.mj_force.specs.Enclosures.{enclosure_fault}
use Rattle.mj_types.specs.StepValues.{DualValues}
use Rattle.mj_step.specs.Steps.{force_fault}
use Rattle.mj_step.proofs.ForceLaws.{forces-are}
use Rattle.mj_step.proofs.work.Work.enclose.Goals as goal

pub returns-in_err-self-clause-first : goal.returns-in_err-self-clause-first
unfolding force_fault
returns-in_err-self-clause-first c =
    let m = c.args.model.now in
    let r = err_from_is_err_and c.from_residual.result c.from_residual.ensures.1 in
    rw (r.1, r.2) (c.in_err-self.ensures.first ∙ ap (λ (d : DualValues). enclosure_fault d m.tolerance.mid m.iterations) c.requires.rows.dual_)

pub returns-clause-first : goal.returns-clause-first
unfolding force_fault
returns-clause-first c =
    let m = c.args.model.now in
    c.in_ok-self.ensures.first ∙ ap (λ (d : DualValues). enclosure_fault d m.tolerance.mid m.iterations) c.requires.rows.dual_

pub returns-clause-forces : goal.returns-clause-forces
returns-clause-forces c =
    let e = c.in_ok-self.ensures in
    forces-are c.args.model.now c.args.state.now c.args.controls.now c.args.self.now.dual c.requires.rows.dual_ _
    e.stop e.forces e.cost e.bound e.low e.high (λ k h. e.solved.small k h)
