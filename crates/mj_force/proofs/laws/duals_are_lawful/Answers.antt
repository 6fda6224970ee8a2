use Rattle.mj_force.proofs.OwnLaws.{own-holds_zero, own-regular}
use Rattle.mj_force.proofs.laws.duals_are_lawful.Goals as goal

pub returns : goal.returns
returns c = record { regular = own-regular; zero = own-holds_zero }
