use Rattle.mj_force.proofs.OwnLaws.{own-rows}
use Rattle.mj_force.proofs.laws.problems_read_own_rows.Goals as goal

pub returns : goal.returns
returns c = own-rows
