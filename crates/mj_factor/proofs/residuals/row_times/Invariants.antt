use Rattle.std.proofs.Common.{◌≡◌, ◌*ℤ◌, length}
use Rattle.fx_whole.specs.Sums.{sum_to}
use Rattle.mj_types.specs.Parts.{number_at}
use Rattle.mj_types.specs.Masses.{mass_at}
use Rattle.mj_factor.proofs.residuals.row_times.Given as goal

abbrev pub invariant-loop-j : goal.invariant-loop-j
invariant-loop-j l = l.sum.raw ≡ sum_to l.j (λ j. mass_at (length l.a) l.mass.m l.i j *ℤ number_at l.a j)
