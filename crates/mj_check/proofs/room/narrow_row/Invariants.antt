use Rattle.std.proofs.Common.{◌≡◌, ◌<◌, ℕ, length}
use Rattle.mj_types.specs.Duals.{wide_at}
use Rattle.mj_types.specs.Parts.{number_at}
use Rattle.mj_check.proofs.room.narrow_row.Given as goal

abbrev pub invariant-loop-k : goal.invariant-loop-k
invariant-loop-k l = record {
  len : length l.row ≡ length l.fn.row;
  values : (j : ℕ) → j < l.k → number_at l.row j ≡ wide_at l.numbers j;
}
