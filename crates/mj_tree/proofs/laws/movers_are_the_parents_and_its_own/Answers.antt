use Rattle.mj_tree.proofs.BodyLaws.{moves_by_parent}
use Rattle.mj_tree.proofs.laws.movers_are_the_parents_and_its_own.Goals as goal

pub returns : goal.returns
returns c = λ parent body j b tree. moves_by_parent parent tree body j b
