use Rattle.mj_run.proofs.StepLaws.{told-best}
use Rattle.mj_run.proofs.laws.told_forces_are_best.Goals as goal

pub returns : goal.returns
returns c = told-best
