use Rattle.mj_types.proofs.PartLaws.{none_begun}
use Rattle.mj_factor.proofs.numbers.no_sums.Goals as goal

pub returns-clause-none : goal.returns-clause-none
returns-clause-none g c = λ p. none_begun _ 65 p
