use Rattle.fx_cover.proofs.VectorCovers.{covers-pair}
use Rattle.fx_cover.proofs.pair_covers.Goals as goal

pub returns : goal.returns
returns c = covers-pair
