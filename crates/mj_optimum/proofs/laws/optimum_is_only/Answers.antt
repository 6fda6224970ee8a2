use Rattle.mj_optimum.proofs.BoxLaws.{optimum_is_only}
use Rattle.mj_optimum.proofs.laws.optimum_is_only.Goals as goal

pub returns : goal.returns
returns c = optimum_is_only
