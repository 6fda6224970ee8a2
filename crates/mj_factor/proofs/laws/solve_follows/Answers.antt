use Rattle.mj_factor.proofs.SolveLaws.{back_is, forth_is}
use Rattle.mj_factor.proofs.laws.solve_follows.Goals as goal

pub returns : goal.returns
returns c = record { back = back_is; forth = forth_is }
