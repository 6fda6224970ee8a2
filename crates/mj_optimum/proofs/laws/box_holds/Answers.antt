use Rattle.mj_optimum.proofs.BoxLaws.{box_holds}
use Rattle.mj_optimum.proofs.laws.box_holds.Goals as goal

pub returns : goal.returns
returns c = box_holds
