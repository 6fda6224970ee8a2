use Rattle.fx_near.proofs.CoverLaws.{settled-covers}
use Rattle.fx_near.proofs.laws.settled_covers.Goals as goal

pub returns : goal.returns
returns c = settled-covers
