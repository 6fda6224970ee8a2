use Rattle.mj_optimum.proofs.RiseLaws.{rise_is_least}
use Rattle.mj_optimum.proofs.laws.rise_is_least.Goals as goal

pub returns : goal.returns
returns c = rise_is_least
