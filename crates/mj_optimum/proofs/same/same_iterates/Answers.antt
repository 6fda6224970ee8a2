use Rattle.mj_optimum.proofs.SameSweeps.{iterate-same, stop-same}
use Rattle.mj_optimum.proofs.same.same_iterates.Goals as goal

pub returns : goal.returns
returns c = record { forces = iterate-same; stop = stop-same }
