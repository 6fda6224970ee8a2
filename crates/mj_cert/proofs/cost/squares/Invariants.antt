use Rattle.std.proofs.Common.{◌≡◌}
use Rattle.fx_whole.specs.Sums.{sum_to}
use Rattle.mj_cert.specs.Terms.{square_term}
use Rattle.mj_cert.proofs.cost.squares.Given as goal

abbrev pub invariant-loop-k : goal.invariant-loop-k
invariant-loop-k l = l.total.raw ≡ sum_to l.k (square_term l.forces)
