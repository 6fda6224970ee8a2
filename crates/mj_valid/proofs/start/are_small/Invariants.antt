use Rattle.std.proofs.Common.{◌≡◌, ◌^◌}
use Rattle.mj_valid.specs.Start.{all_to, is_small, entry}
use Rattle.mj_valid.proofs.start.are_small.Given as goal

abbrev pub invariant-loop-d : goal.invariant-loop-d
invariant-loop-d l = l.all ≡ all_to l.d (λ d. is_small (2 ^ 44) (entry l.xs d).mid)
