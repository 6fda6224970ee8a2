use Rattle.std.proofs.Common.{◌≡◌, ℕ, ◌<◌, length, pos}
use Rattle.mj_types.specs.Parts.{number_at}
use Rattle.mj_pgs.proofs.start.clear.Given as goal

abbrev pub invariant-loop-i : goal.invariant-loop-i
invariant-loop-i g l = (length l.list ≡ length l.fn.list) × ((j : ℕ) → j < l.i → number_at l.list j ≡ pos 0)
