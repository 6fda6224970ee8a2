use Rattle.mj_rows.proofs.EdgeLaws.{edges_sum}
use Rattle.mj_rows.proofs.laws.edges_add_up.Goals as goal

pub returns : goal.returns
returns c = edges_sum
