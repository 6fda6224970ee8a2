use Rattle.std.proofs.Common.{◌≡◌, ◌-◌, ◌*◌, ◌^◌, ◌≤◌, ◌*ℤ◌, unsigned_abs}
use Rattle.fx_whole.specs.Sums.{sum_to}
use Rattle.mj_types.specs.Duals.{entry_at}
use Rattle.mj_types.specs.Problems.{place, forces}
use Rattle.mj_step.proofs.loading.push.Given as goal

abbrev pub invariant-loop-k : goal.invariant-loop-k
invariant-loop-k l = record {
  total : l.total.raw ≡ sum_to l.k (λ k. entry_at l.nv l.rows.jac.list (place l.dual k - 1) l.i *ℤ forces l.forces k);
  size : unsigned_abs l.total.raw ≤ l.k * 2 ^ 98;
}
