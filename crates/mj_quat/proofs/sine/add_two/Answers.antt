use Rattle.std.proofs.Common.{pos}
use Rattle.mj_quat.proofs.SineLaws.{next_term-twice}
use Rattle.mj_quat.proofs.sine.add_two.Goals as goal

pub returns-clause-term : goal.returns-clause-term
returns-clause-term c = next_term-twice (pos c.args.partial.now.term) (pos c.next_size-less.result) (pos c.next_size-more.result) (pos c.args.square) c.args.first c.args.second c.next_size-less.ensures.value c.next_size-more.ensures.value
