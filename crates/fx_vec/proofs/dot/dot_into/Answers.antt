use Rattle.fx_vec.proofs.Fitting.{three_more}
use Rattle.fx_vec.proofs.dot.dot_into.Goals as goal

pub returns-clause-mid : goal.returns-clause-mid
returns-clause-mid g c = three_more _ _ _ _ _ _ _ c.add_product.ensures.mid c.add_product-2.ensures.mid c.add_product-3.ensures.mid
