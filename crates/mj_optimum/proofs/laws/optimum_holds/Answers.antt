use Rattle.mj_optimum.proofs.BoundLaws.{optimum_holds}
use Rattle.mj_optimum.proofs.laws.optimum_holds.Goals as goal

pub returns : goal.returns
returns c = optimum_holds
