use Rattle.mj_optimum.proofs.BoundLaws.{shortfall_from_zero}
use Rattle.mj_optimum.proofs.laws.shortfall_from_zero.Goals as goal

pub returns : goal.returns
returns c = shortfall_from_zero
