use Rattle.fx_near.proofs.CoverLaws.{exact-covers}
use Rattle.fx_near.proofs.laws.exact_covers.Goals as goal

pub returns : goal.returns
returns c = exact-covers
