use Rattle.std.proofs.Common.{◌≡◌, ◌<◌, ◌≤◌, ◌^◌, ℕ, ◌-ℤ◌, length, slice_index_or, unsigned_abs}
use Rattle.mj_types.specs.Masses.{no_near}
use Rattle.mj_types.specs.Parts.{number_at}
use Rattle.mj_step.proofs.report.fill_free_load.Given as goal

abbrev pub invariant-loop-i : goal.invariant-loop-i
invariant-loop-i l = record {
  len : length l.load ≡ length l.fn.load;
  value : (i : ℕ) → i < l.i → number_at l.load i ≡ number_at l.tau i -ℤ (slice_index_or l.c i no_near).mid;
  small : (i : ℕ) → i < l.i → unsigned_abs (number_at l.load i) ≤ 2 ^ 54;
}
