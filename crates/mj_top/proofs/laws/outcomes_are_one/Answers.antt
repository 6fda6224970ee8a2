use Rattle.mj_top.proofs.Once.{outcomes-one}
use Rattle.mj_top.proofs.laws.outcomes_are_one.Goals as goal

pub returns : goal.returns
returns c = outcomes-one
