use Rattle.fx_near.proofs.CoverLaws.{sum-covers}
use Rattle.fx_near.proofs.laws.sum_covers.Goals as goal

pub returns : goal.returns
returns c = sum-covers
