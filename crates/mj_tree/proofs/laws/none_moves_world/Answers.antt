use Rattle.mj_tree.proofs.DofLaws.{none_moves_world}
use Rattle.mj_tree.proofs.laws.none_moves_world.Goals as goal

pub returns : goal.returns
returns c = none_moves_world
