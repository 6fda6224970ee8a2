use Rattle.fx_cover.proofs.VectorCovers.{covers6-settled}
use Rattle.fx_cover.proofs.settled6_covers.Goals as goal

pub returns : goal.returns
returns c = covers6-settled
