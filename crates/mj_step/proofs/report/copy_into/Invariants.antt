use Rattle.std.proofs.Common.{◌≡◌, ◌<◌, ℕ, length}
use Rattle.mj_types.specs.Parts.{number_at}
use Rattle.mj_step.proofs.report.copy_into.Given as goal

abbrev pub invariant-loop-i : goal.invariant-loop-i
invariant-loop-i l = record {
  len : length l.to ≡ length l.fn.to;
  same : (i : ℕ) → i < l.i → number_at l.to i ≡ number_at l.from i;
}
