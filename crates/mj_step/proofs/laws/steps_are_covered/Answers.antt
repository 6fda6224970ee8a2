use Rattle.mj_step.proofs.CoverLaws.{mass-covered, bias-covered, residual-largest}
use Rattle.mj_step.proofs.laws.steps_are_covered.Goals as goal

pub returns : goal.returns
returns c = λ m s u. record { mass = mass-covered m s; bias = bias-covered m s; residual = residual-largest m s u }
