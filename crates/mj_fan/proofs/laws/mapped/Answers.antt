use Rattle.mj_fan.specs.InPlace.{Ran}
use Rattle.mj_fan.proofs.InPlaceLaws.{mapped}
use Rattle.mj_fan.proofs.laws.mapped.Goals as goal

pub returns : goal.returns
returns g c = mapped (Ran g.J.Job.ran g.J.Job.number_of)
