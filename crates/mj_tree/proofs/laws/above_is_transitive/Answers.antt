use Rattle.mj_tree.proofs.BodyLaws.{above_trans}
use Rattle.mj_tree.proofs.laws.above_is_transitive.Goals as goal

pub returns : goal.returns
returns c = λ parent a b d tree. above_trans parent tree a b d
