use Rattle.mj_optimum.proofs.SweepLaws.{reach_put, cost_put}
use Rattle.mj_optimum.proofs.laws.one_force_changes.Goals as goal

pub returns : goal.returns
returns c = record { reach = reach_put; cost = cost_put }
