use Rattle.std.proofs.Common.{◌≡◌}
use Rattle.mj_types.specs.Parts.{joint}
use Rattle.mj_valid.specs.Start.{all_to, in_limits}
use Rattle.mj_valid.proofs.start.are_in_limits.Given as goal

abbrev pub invariant-loop-j : goal.invariant-loop-j
invariant-loop-j l = l.all ≡ all_to l.j (λ j. in_limits l.xs (joint l.joints j).qadr (joint l.joints j).kind)
