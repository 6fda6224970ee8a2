use Rattle.std.proofs.Common.{◌≡◌, ◌*◌, ◌^◌, ◌≤◌, unsigned_abs, None}
use Rattle.fx_whole.specs.First.{first_to}
use Rattle.fx_whole.specs.Sums.{sum_ℕ_to}
use Rattle.mj_types.specs.Forests.{above_in}
use Rattle.mj_types.specs.Parts.{number_at}
use Rattle.mj_factor.specs.Stored.{entry, shifted_mass}
use Rattle.mj_ball.specs.Shifts.{with_diagonal, error_at, error_fault}
use Rattle.mj_ball.proofs.errors.row_size.Given as goal

abbrev pub invariant-loop-j : goal.invariant-loop-j
invariant-loop-j l = record {
  so_far : l.size ≡ sum_ℕ_to l.j (λ j. unsigned_abs (error_at l.model.nv (shifted_mass l.shift.mid l.model l.mass) (number_at l.factor.d) (with_diagonal (entry (above_in l.model) l.factor.l)) l.i j));
  small : l.size ≤ l.j * 2 ^ 116;
  passed : first_to l.j (error_fault l.model.nv (shifted_mass l.shift.mid l.model l.mass) (number_at l.factor.d) (with_diagonal (entry (above_in l.model) l.factor.l)) l.i) ≡ None;
}
