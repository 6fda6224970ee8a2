use Rattle.std.proofs.Common.{◌≡◌}
use Rattle.fx_whole.specs.Sums.{sum_to}
use Rattle.mj_cert.specs.Terms.{row_term}
use Rattle.mj_cert.proofs.slope.row_product.Given as goal

abbrev pub invariant-loop-k : goal.invariant-loop-k
invariant-loop-k l = l.total.raw ≡ sum_to l.k (row_term l.dual l.forces l.i)
