use Rattle.mj_optimum.proofs.CostLaws.{gradient_over_rows}
use Rattle.mj_optimum.proofs.laws.gradient_over_rows.Goals as goal

pub returns : goal.returns
returns c = gradient_over_rows
