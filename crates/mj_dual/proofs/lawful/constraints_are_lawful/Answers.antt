use Rattle.mj_dual.proofs.ConstraintLaws.{constraints-lawful}
use Rattle.mj_dual.proofs.lawful.constraints_are_lawful.Goals as goal

pub returns : goal.returns
returns c = constraints-lawful
