use Rattle.fx_near.proofs.RootCovers.{root-covers}
use Rattle.fx_near.proofs.laws.root_covers.Goals as goal

pub returns : goal.returns
returns c = root-covers
