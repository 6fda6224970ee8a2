use Rattle.mj_tree.proofs.UpLaws.{sum_under_children}
use Rattle.mj_tree.proofs.laws.sum_up_is_plain.Goals as goal

pub returns : goal.returns
returns g c = λ m laws parent tree n f b. sum_under_children m laws parent tree n f b
