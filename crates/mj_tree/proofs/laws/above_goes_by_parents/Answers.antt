use Rattle.mj_tree.proofs.BodyLaws.{above_by_parent}
use Rattle.mj_tree.proofs.laws.above_goes_by_parents.Goals as goal

pub returns : goal.returns
returns c = λ parent a b tree. above_by_parent parent tree a b
