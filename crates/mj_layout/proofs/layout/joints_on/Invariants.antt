use Rattle.std.proofs.Common.{◌≡◌}
use Rattle.fx_whole.specs.Joined.{joined}
use Rattle.mj_layout.specs.Layout.{part}
use Rattle.mj_layout.proofs.layout.joints_on.Given as goal

abbrev pub invariant-loop-b : goal.invariant-loop-b
invariant-loop-b l = l.all.items ≡ joined l.b (λ b. (part l.parts b).joints)
