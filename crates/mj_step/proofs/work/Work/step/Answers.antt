use Rattle.mj_step.proofs.BallLaws.{can_enclose}
use Rattle.mj_step.proofs.CertifiedLaws.{certified}
use Rattle.mj_step.proofs.CoverLaws.{mass-covered, bias-covered, residual-largest}
use Rattle.mj_step.proofs.work.Work.step.Goals as goal

pub returns-clause-can_enclose : goal.returns-clause-can_enclose
returns-clause-can_enclose c =
    can_enclose c.args.model.now _ _ _ c.in_ok-compute.ensures.mass (λ i h. c.in_ok-compute.ensures.accel.small i h)

pub returns-clause-certified : goal.returns-clause-certified
returns-clause-certified c = certified c.args.model.now c.args.state.now c.args.controls.now

pub returns-clause-covered : goal.returns-clause-covered
returns-clause-covered c =
    let m = c.args.model.now in
    let s = c.args.state.now in
    record { mass = mass-covered m s; bias = bias-covered m s; residual = residual-largest m s c.args.controls.now }
