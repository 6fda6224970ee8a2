use Rattle.std.proofs.Common.{ℕ, ◌^◌, ◌<◌, ◌≤◌, unsigned_abs}
use Rattle.mj_types.specs.Parts.{number_at}
use Rattle.mj_types.proofs.dual.are_small.Given as goal

abbrev pub invariant-loop-k : goal.invariant-loop-k
invariant-loop-k l = (j : ℕ) → j < l.k → unsigned_abs (number_at l.numbers j) ≤ 2 ^ 44
