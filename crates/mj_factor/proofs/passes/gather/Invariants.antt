use Rattle.std.proofs.Common.{◌≡◌}
use Rattle.fx_whole.specs.Sums.{sum_to}
use Rattle.mj_types.specs.Parts.{number_at}
use Rattle.mj_factor.proofs.GatherLaws.{gathered}
use Rattle.mj_factor.proofs.passes.gather.Given as goal

abbrev pub invariant-loop-c : goal.invariant-loop-c
invariant-loop-c l = l.sum.raw ≡ sum_to l.c (gathered l.model l.factor l.i (number_at l.a))
