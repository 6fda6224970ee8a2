use Rattle.mj_top.proofs.Once.{workers-alike}
use Rattle.mj_top.proofs.laws.workers_do_not_matter.Goals as goal

pub returns : goal.returns
returns c = workers-alike
