use Rattle.mj_optimum.proofs.SweepLaws.{iterate_is_feasible}
use Rattle.mj_optimum.proofs.laws.iterate_is_feasible.Goals as goal

pub returns : goal.returns
returns c = iterate_is_feasible
