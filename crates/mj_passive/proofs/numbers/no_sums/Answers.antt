use Rattle.mj_types.proofs.PartLaws.{none_begun}
use Rattle.mj_passive.proofs.numbers.no_sums.Goals as goal

pub returns : goal.returns
returns c = λ p. none_begun 64 64 p
