use Rattle.mj_dual.proofs.ImpedanceLaws.{impedance-between}
use Rattle.mj_dual.proofs.lawful.impedance_lies_between.Goals as goal

pub returns : goal.returns
returns c = impedance-between
