use Rattle.fx_near.proofs.QuotientLaws.{quotient-covers}
use Rattle.fx_near.proofs.laws.quotient_covers.Goals as goal

pub returns : goal.returns
returns c = quotient-covers
