use Rattle.std.proofs.Common.{◌≡◌, ℕ, ◌<◌, length}
use Rattle.mj_types.specs.Parts.{number_at}
use Rattle.mj_factor.specs.Solves.{pivot_root}
use Rattle.mj_factor.proofs.solving.pivot_roots.Given as goal

abbrev pub invariant-loop-k : goal.invariant-loop-k
invariant-loop-k l = record {
  width : length l.roots ≡ length l.initial.roots;
  done : (j : ℕ) → j < l.k → number_at l.roots j ≡ pivot_root (number_at l.factor.d j);
}
