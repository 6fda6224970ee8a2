use Rattle.fx_vec.proofs.Fitting.{three_more}
use Rattle.fx_vec.proofs.inertia.row_into.Goals as goal

pub returns-clause-mid : goal.returns-clause-mid
returns-clause-mid g c = three_more _ _ _ _ _ _ _ c.add_scaled.ensures.mid c.add_scaled-2.ensures.mid c.add_scaled-3.ensures.mid
