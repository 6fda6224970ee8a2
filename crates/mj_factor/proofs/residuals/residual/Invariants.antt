use Rattle.std.proofs.Common.{◌≡◌, ◌<◌, ◌^◌, length}
use Rattle.mj_types.specs.Parts.{number_at}
use Rattle.mj_factor.specs.Residuals.{greatest_to, residual_at}
use Rattle.mj_types.specs.Masses.{mass_at}
use Rattle.mj_factor.proofs.residuals.residual.Given as goal

abbrev pub invariant-loop-i : goal.invariant-loop-i
invariant-loop-i l = record {
  so_far : l.greatest ≡ greatest_to l.i (residual_at (length l.a) (mass_at (length l.a) l.mass.m) (number_at l.a) (number_at l.rhs));
  small : l.greatest < 2 ^ 127;
}
