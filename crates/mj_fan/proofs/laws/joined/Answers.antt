use Rattle.mj_fan.specs.InPlace.{Ran}
use Rattle.mj_fan.proofs.InPlaceLaws.{joined}
use Rattle.mj_fan.proofs.laws.joined.Goals as goal

pub returns : goal.returns
returns g c = joined (Ran g.J.Job.ran g.J.Job.number_of)
