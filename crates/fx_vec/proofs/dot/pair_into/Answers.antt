use Rattle.fx_vec.proofs.Fitting.{two_more}
use Rattle.fx_vec.proofs.dot.pair_into.Goals as goal

pub returns-clause-mid : goal.returns-clause-mid
returns-clause-mid g c = two_more _ _ _ _ _ c.dot_into.ensures.mid c.dot_into-2.ensures.mid
