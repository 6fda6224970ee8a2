use Rattle.std.proofs.Common.{ℕ, ◌^◌, ◌<◌, ◌≤◌, unsigned_abs}
use Rattle.mj_types.specs.Parts.{number_at}
use Rattle.tests_model.proofs.traces.are_small.Given as goal

abbrev pub invariant-loop-i : goal.invariant-loop-i
invariant-loop-i l = (j : ℕ) → j < l.i → unsigned_abs (number_at l.xs j) ≤ 2 ^ 52
