use Rattle.mj_fan.specs.InPlace.{Ran}
use Rattle.mj_fan.proofs.InPlaceLaws.{InPlaceTo}
use Rattle.mj_fan.proofs.jobs.run_in_order.Given as goal

abbrev pub invariant-loop-i : goal.invariant-loop-i
invariant-loop-i g l = InPlaceTo (Ran g.J.Job.ran g.J.Job.number_of) l.i l.fn.jobs l.jobs
