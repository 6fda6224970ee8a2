use Rattle.std.proofs.Common.{◌≡◌, ℕ, ◌+◌, ◌<◌, length}
use Rattle.mj_types.specs.Parts.{number_at}
use Rattle.mj_types.proofs.dual.copy_into.Given as goal

abbrev pub invariant-loop-k : goal.invariant-loop-k
invariant-loop-k l =
    (length l.list ≡ length l.fn.list)
    × ((j : ℕ) → j < l.k → number_at l.list (l.place + j) ≡ number_at l.numbers j)
    × ((j : ℕ) → j < l.place → number_at l.list j ≡ number_at l.fn.list j)
