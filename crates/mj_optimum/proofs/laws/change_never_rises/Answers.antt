use Rattle.mj_optimum.proofs.SweepLaws.{change_never_rises}
use Rattle.mj_optimum.proofs.laws.change_never_rises.Goals as goal

pub returns : goal.returns
returns c = change_never_rises
