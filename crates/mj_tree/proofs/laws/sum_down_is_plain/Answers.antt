use Rattle.mj_tree.proofs.DownLaws.{moving_by_parent}
use Rattle.mj_tree.proofs.laws.sum_down_is_plain.Goals as goal

pub returns : goal.returns
returns g c = λ m laws parent body tree n f b. moving_by_parent m laws parent body tree n f b
