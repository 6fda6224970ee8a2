use Rattle.std.proofs.Common.{◌≡◌, ◌^◌, ◌≤◌, None}
use Rattle.fx_whole.specs.First.{first_to}
use Rattle.mj_types.specs.Forests.{above_in}
use Rattle.mj_types.specs.Parts.{number_at}
use Rattle.mj_factor.specs.Residuals.{greatest_to}
use Rattle.mj_factor.specs.Stored.{entry, shifted_mass}
use Rattle.mj_quadratic.specs.Forms as forms
use Rattle.mj_ball.specs.Shifts.{with_diagonal, error_at, row_fault}
use Rattle.mj_ball.proofs.errors.largest_row.Given as goal

abbrev pub invariant-loop-i : goal.invariant-loop-i
invariant-loop-i l = record {
  so_far : l.greatest ≡ greatest_to l.i (forms.row_size l.model.nv (error_at l.model.nv (shifted_mass l.shift.mid l.model l.mass) (number_at l.factor.d) (with_diagonal (entry (above_in l.model) l.factor.l))));
  small : l.greatest ≤ 2 ^ 122;
  passed : first_to l.i (row_fault l.model.nv (shifted_mass l.shift.mid l.model l.mass) (number_at l.factor.d) (with_diagonal (entry (above_in l.model) l.factor.l))) ≡ None;
}
