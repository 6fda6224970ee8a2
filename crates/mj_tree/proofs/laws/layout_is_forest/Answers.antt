use Rattle.mj_tree.proofs.DofLaws.{layout_is_forest}
use Rattle.mj_tree.proofs.laws.layout_is_forest.Goals as goal

pub returns : goal.returns
returns c = layout_is_forest
