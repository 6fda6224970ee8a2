use Rattle.std.proofs.Common.{◌≡◌}
use Rattle.mj_factor.specs.Residuals.{greatest_to}
use Rattle.mj_types.specs.Masses.{mass_radius_at}
use Rattle.mj_step.proofs.report.largest_in_mass.Given as goal

abbrev pub invariant-loop-i : goal.invariant-loop-i
invariant-loop-i l = record { most : l.most ≡ greatest_to l.i (λ i. greatest_to l.n (mass_radius_at l.n l.mass.m i)) }
