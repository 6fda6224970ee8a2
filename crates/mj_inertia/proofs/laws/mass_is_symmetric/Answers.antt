use Rattle.mj_inertia.proofs.MassLaws.{mass_symmetric}
use Rattle.mj_inertia.proofs.laws.mass_is_symmetric.Goals as goal

pub returns : goal.returns
returns c = mass_symmetric
