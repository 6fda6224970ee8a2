use Rattle.std.proofs.Common.{arith}
use Rattle.mj_tree.proofs.DownLaws.{moving_start, moving_more, moving_end_at_next, moving_world}
use Rattle.mj_tree.proofs.BodyLaws.{moves_own}
use Rattle.mj_tree.proofs.laws.carried_down_is_sum_moving.Goals as goal

pub returns : goal.returns
returns g c = record {
  begins = moving_start;
  goes_on = λ m laws parent body tree j f. moving_more m laws parent body j f (body j) (moves_own parent tree body j);
  ends = moving_end_at_next;
  world = λ m laws parent body first bodies dofs layout f. moving_world m laws parent body first bodies dofs layout dofs f (omega arith);
}
