use Rattle.mj_optimum.proofs.CostLaws.{cost_expands}
use Rattle.mj_optimum.proofs.laws.cost_expands.Goals as goal

pub returns : goal.returns
returns c = cost_expands
