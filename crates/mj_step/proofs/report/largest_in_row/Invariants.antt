use Rattle.std.proofs.Common.{◌≡◌}
use Rattle.mj_factor.specs.Residuals.{greatest_to}
use Rattle.mj_types.specs.Masses.{mass_radius_at}
use Rattle.mj_step.proofs.report.largest_in_row.Given as goal

abbrev pub invariant-loop-j : goal.invariant-loop-j
invariant-loop-j l = record { most : l.most ≡ greatest_to l.j (mass_radius_at l.n l.mass.m l.i) }
