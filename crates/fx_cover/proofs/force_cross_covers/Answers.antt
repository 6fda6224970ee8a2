use Rattle.fx_cover.proofs.VectorCovers.{covers6-force_cross}
use Rattle.fx_cover.proofs.force_cross_covers.Goals as goal

pub returns : goal.returns
returns c = covers6-force_cross
