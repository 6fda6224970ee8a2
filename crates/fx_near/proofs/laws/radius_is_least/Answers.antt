use Rattle.fx_whole.proofs.LeastLaws.{ceil_div-least}
use Rattle.fx_near.proofs.laws.radius_is_least.Goals as goal

pub returns : goal.returns
returns c = ceil_div-least
