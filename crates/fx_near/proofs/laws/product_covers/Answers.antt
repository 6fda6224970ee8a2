use Rattle.fx_near.proofs.CoverLaws.{product-covers}
use Rattle.fx_near.proofs.laws.product_covers.Goals as goal

pub returns : goal.returns
returns c = product-covers
