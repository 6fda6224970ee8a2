use Rattle.mj_tree.proofs.BodyLaws.{moves_own, moves_cases}
use Rattle.mj_tree.proofs.laws.moved_are_below.Goals as goal

pub returns : goal.returns
returns c = record {
  own = λ parent body j tree. moves_own parent tree body j;
  below = λ parent body j b tree. moves_cases parent tree body j b;
}
