use Rattle.mj_inertia.proofs.MassLaws.{composite_momentum}
use Rattle.mj_inertia.proofs.laws.composite_momentum_is_sum.Goals as goal

pub returns : goal.returns
returns c = composite_momentum
