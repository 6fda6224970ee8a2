use Rattle.std.proofs.Common.{◌≡◌, ℕ, ◌<◌, pos}
use Rattle.mj_types.specs.Parts.{number_at}
use Rattle.mj_rows.proofs.jacobian.clear.Given as goal

abbrev pub invariant-loop-d : goal.invariant-loop-d
invariant-loop-d l = (k : ℕ) → k < l.d → number_at l.jacobian k ≡ pos 0
