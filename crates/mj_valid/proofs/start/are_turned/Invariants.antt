use Rattle.std.proofs.Common.{◌≡◌}
use Rattle.mj_types.specs.Parts.{joint}
use Rattle.mj_valid.specs.Start.{all_to, is_turned}
use Rattle.mj_valid.proofs.start.are_turned.Given as goal

abbrev pub invariant-loop-j : goal.invariant-loop-j
invariant-loop-j l = l.all ≡ all_to l.j (λ j. is_turned l.xs (joint l.joints j).qadr (joint l.joints j).kind)
