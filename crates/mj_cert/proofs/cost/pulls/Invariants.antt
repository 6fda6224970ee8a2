use Rattle.std.proofs.Common.{◌≡◌}
use Rattle.fx_whole.specs.Sums.{sum_to}
use Rattle.mj_cert.specs.Terms.{pull_term}
use Rattle.mj_cert.proofs.cost.pulls.Given as goal

abbrev pub invariant-loop-i : goal.invariant-loop-i
invariant-loop-i l = l.total.raw ≡ sum_to l.i (pull_term l.dual l.forces)
