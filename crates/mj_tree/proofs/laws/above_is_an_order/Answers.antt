use Rattle.mj_tree.proofs.BodyLaws.{above_itself, world_is_above, above_le}
use Rattle.mj_tree.proofs.laws.above_is_an_order.Goals as goal

pub returns : goal.returns
returns c = record {
  itself = λ parent b tree. above_itself parent tree b;
  world = λ parent b tree. world_is_above parent tree b;
  before = λ parent a b tree. above_le parent tree a b;
}
