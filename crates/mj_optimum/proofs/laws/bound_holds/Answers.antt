use Rattle.mj_optimum.proofs.BoundLaws.{bound_holds}
use Rattle.mj_optimum.proofs.laws.bound_holds.Goals as goal

pub returns : goal.returns
returns c = bound_holds
