use Rattle.mj_rows.proofs.EdgeLaws.{unmoved_zero}
use Rattle.mj_rows.proofs.laws.unmoved_is_zero.Goals as goal

pub returns : goal.returns
returns c = unmoved_zero
