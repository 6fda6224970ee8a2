use Rattle.std.proofs.Common.{◌+◌, ◌*◌}
use Rattle.mj_fan.proofs.jobs.+halves.Given as goal

abbrev pub decreases-fan : goal.decreases-fan
decreases-fan g l = 2 * l.pieces

abbrev pub decreases-join_mut+arg2 : goal.decreases-join_mut+arg2
decreases-join_mut+arg2 g l = 2 * l.few + 1

abbrev pub decreases-join_mut+arg3 : goal.decreases-join_mut+arg3
decreases-join_mut+arg3 g l = 2 * l.rest + 1
