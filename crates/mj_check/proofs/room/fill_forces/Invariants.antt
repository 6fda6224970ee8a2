use Rattle.std.proofs.Common.{◌≡◌, ◌<◌, ◌≤◌, ◌^◌, ℕ, length, unsigned_abs}
use Rattle.mj_types.specs.Parts.{number_at}
use Rattle.mj_check.specs.Rows.{row_at}
use Rattle.mj_check.proofs.room.fill_forces.Given as goal

abbrev pub invariant-loop-i : goal.invariant-loop-i
invariant-loop-i l = record {
  len : length l.f ≡ length l.fn.f;
  values : (j : ℕ) → j < l.i → number_at l.f j ≡ (row_at l.rows.list j).told.f.raw;
  small : (j : ℕ) → j < l.i → unsigned_abs (number_at l.f j) ≤ 2 ^ 50;
}
