use Rattle.std.proofs.Common.{◌≡◌, ℕ, ◌<◌, ◌≤◌, neg_ℤ}
use Rattle.mj_types.specs.Parts.{number_at}
use Rattle.mj_rows.proofs.jacobian.negate.Given as goal

abbrev pub invariant-loop-d : goal.invariant-loop-d
invariant-loop-d l = record {
  turned : (k : ℕ) → k < l.d → number_at l.jacobian k ≡ neg_ℤ (number_at l.initial.jacobian k);
  rest : (k : ℕ) → l.d ≤ k → number_at l.jacobian k ≡ number_at l.initial.jacobian k;
}
