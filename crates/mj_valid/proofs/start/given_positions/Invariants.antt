use Rattle.std.proofs.Common.{◌≡◌}
use Rattle.fx_whole.specs.Joined.{joined}
use Rattle.mj_valid.specs.Start.{given_at}
use Rattle.mj_valid.proofs.start.given_positions.Given as goal

abbrev pub invariant-loop-j : goal.invariant-loop-j
invariant-loop-j l = l.out.items ≡ joined l.j (given_at l.xs l.joints)
