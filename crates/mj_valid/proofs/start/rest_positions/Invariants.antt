use Rattle.std.proofs.Common.{◌≡◌}
use Rattle.fx_whole.specs.Joined.{joined}
use Rattle.mj_valid.specs.Start.{rest_at}
use Rattle.mj_valid.proofs.start.rest_positions.Given as goal

abbrev pub invariant-loop-j : goal.invariant-loop-j
invariant-loop-j l = l.out.items ≡ joined l.j (rest_at l.bodies l.joints)
