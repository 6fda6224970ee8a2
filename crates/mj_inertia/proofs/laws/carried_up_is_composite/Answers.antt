use Rattle.mj_inertia.proofs.CompositeLaws.{carried_up}
use Rattle.mj_inertia.proofs.laws.carried_up_is_composite.Goals as goal

pub returns : goal.returns
returns c = carried_up
