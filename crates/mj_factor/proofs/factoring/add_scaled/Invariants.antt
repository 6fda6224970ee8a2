use Rattle.std.proofs.Common.{◌≡◌, ℕ, ◌<◌, ◌≤◌, ◌+ℤ◌, ◌*ℤ◌}
use Rattle.mj_types.specs.Duals.{wide_at}
use Rattle.mj_types.specs.Parts.{number_at}
use Rattle.mj_factor.proofs.factoring.add_scaled.Given as goal

abbrev pub invariant-loop-c : goal.invariant-loop-c
invariant-loop-c l = record {
  done : (e : ℕ) → e < l.c → wide_at l.sums e ≡ wide_at l.initial.sums e +ℤ l.l.mid *ℤ number_at l.w e;
  rest : (e : ℕ) → l.c ≤ e → wide_at l.sums e ≡ wide_at l.initial.sums e;
}
