use Rattle.mj_tree.proofs.BodyLaws.{above_either}
use Rattle.mj_tree.proofs.laws.two_above_a_third.Goals as goal

pub returns : goal.returns
returns c = λ parent a b d tree. above_either parent tree a b d
