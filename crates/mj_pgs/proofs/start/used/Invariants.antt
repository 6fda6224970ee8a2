use Rattle.std.proofs.Common.{◌≡◌, ℕ, ◌<◌, ◌≤◌, pos}
use Rattle.mj_types.specs.Parts.{number_at}
use Rattle.mj_pgs.proofs.start.used.Given as goal

abbrev pub invariant-loop-k : goal.invariant-loop-k
invariant-loop-k l = (l.used ≤ l.k) × ((j : ℕ) → l.used ≤ j → j < l.k → number_at l.row j ≡ pos 0)
