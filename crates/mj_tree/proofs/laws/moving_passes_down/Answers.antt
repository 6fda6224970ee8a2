use Rattle.mj_tree.proofs.BodyLaws.{moves_below}
use Rattle.mj_tree.proofs.laws.moving_passes_down.Goals as goal

pub returns : goal.returns
returns c = λ parent body j b d tree. moves_below parent tree body j b d
