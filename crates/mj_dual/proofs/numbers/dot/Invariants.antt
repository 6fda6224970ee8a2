use Rattle.std.proofs.Common.{◌≡◌, ◌*◌, ◌^◌, ◌≤◌, ◌*ℤ◌, unsigned_abs}
use Rattle.fx_whole.specs.Sums.{sum_to}
use Rattle.mj_types.specs.Parts.{number_at}
use Rattle.mj_dual.proofs.numbers.dot.Given as goal

abbrev pub invariant-loop-k : goal.invariant-loop-k
invariant-loop-k l = record {
  so_far : l.total.raw ≡ sum_to l.k (λ k. number_at l.j k *ℤ number_at l.x k);
  small : unsigned_abs l.total.raw ≤ l.k * 2 ^ 104;
}
