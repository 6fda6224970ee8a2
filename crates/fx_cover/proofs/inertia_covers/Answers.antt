use Rattle.fx_cover.proofs.VectorCovers.{covers6-inertia}
use Rattle.fx_cover.proofs.inertia_covers.Goals as goal

pub returns : goal.returns
returns c = covers6-inertia
