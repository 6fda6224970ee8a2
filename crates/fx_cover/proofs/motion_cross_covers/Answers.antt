use Rattle.fx_cover.proofs.VectorCovers.{covers6-motion_cross}
use Rattle.fx_cover.proofs.motion_cross_covers.Goals as goal

pub returns : goal.returns
returns c = covers6-motion_cross
