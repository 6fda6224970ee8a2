use Rattle.mj_optimum.proofs.SamePromises.{bound_holds-over, box_holds-over, feasible-over}
use Rattle.mj_optimum.proofs.same.same_promises.Goals as goal

pub returns : goal.returns
returns c = record { feasible = feasible-over; bound = bound_holds-over; box_ends = box_holds-over }
