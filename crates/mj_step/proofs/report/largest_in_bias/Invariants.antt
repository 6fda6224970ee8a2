use Rattle.std.proofs.Common.{◌≡◌, slice_index_or}
use Rattle.mj_factor.specs.Residuals.{greatest_to}
use Rattle.mj_types.specs.Masses.{no_near}
use Rattle.mj_step.proofs.report.largest_in_bias.Given as goal

abbrev pub invariant-loop-i : goal.invariant-loop-i
invariant-loop-i l = record { most : l.most ≡ greatest_to l.i (λ i. (slice_index_or l.c i no_near).rad) }
