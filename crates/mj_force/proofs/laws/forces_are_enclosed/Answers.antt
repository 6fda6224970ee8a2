use Rattle.mj_force.proofs.EnclosureLaws.{enclosed}
use Rattle.mj_force.proofs.laws.forces_are_enclosed.Goals as goal

pub returns : goal.returns
returns c = enclosed
