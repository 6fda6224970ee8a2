use Rattle.mj_step.proofs.CertifiedLaws.{certified}
use Rattle.mj_step.proofs.laws.steps_are_certified.Goals as goal

pub returns : goal.returns
returns c = certified
