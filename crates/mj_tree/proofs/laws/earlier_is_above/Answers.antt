use Rattle.mj_tree.proofs.DofLaws.{above_of_one_body}
use Rattle.mj_tree.proofs.laws.earlier_is_above.Goals as goal

pub returns : goal.returns
returns c = λ parent body i k tree. above_of_one_body parent body tree i k
