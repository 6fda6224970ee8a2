use Rattle.mj_factor.proofs.FactorLaws.{work_is}
use Rattle.mj_factor.proofs.laws.factor_follows.Goals as goal

pub returns : goal.returns
returns c = work_is
