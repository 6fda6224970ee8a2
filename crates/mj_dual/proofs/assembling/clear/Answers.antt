use Rattle.std.proofs.Common.{arith}
use Rattle.mj_dual.proofs.assembling.clear.Goals as goal

pub returns-clause-solvable : goal.returns-clause-solvable
returns-clause-solvable c = record { each = λ i h. absurd (omega (arith, c.clear-3.ensures.empty)) }
