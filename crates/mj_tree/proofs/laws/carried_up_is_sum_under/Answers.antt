use Rattle.std.proofs.Common.{◌+◌, refl}
use Rattle.mj_tree.proofs.UpLaws.{carried_up}
use Rattle.mj_tree.proofs.laws.carried_up_is_sum_under.Goals as goal

pub returns : goal.returns
returns g c = λ m laws parent tree bodies f. carried_up m laws parent tree (bodies + 1) f bodies refl
