use Rattle.mj_optimum.proofs.BoundLaws.{parabola_is_least}
use Rattle.mj_optimum.proofs.laws.parabola_is_least.Goals as goal

pub returns : goal.returns
returns c = parabola_is_least
