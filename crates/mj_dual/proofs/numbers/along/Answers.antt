use Rattle.std.proofs.Common.{ap, ◌∙◌}
use Rattle.fx_num.specs.Settled.{settled_mid}
use Rattle.mj_dual.specs.Products.{along}
use Rattle.mj_dual.proofs.numbers.along.Goals as goal

pub returns-clause-value : goal.returns-clause-value
unfolding along
returns-clause-value c = c.rounded.ensures.value ∙ ap (λ x. settled_mid x 32) c.dot.ensures.value
