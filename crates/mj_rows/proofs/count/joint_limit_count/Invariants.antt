use Rattle.std.proofs.Common.{◌≡◌, ◌*◌, ◌≤◌, length}
use Rattle.fx_whole.specs.Joined.{joined}
use Rattle.mj_rows.specs.Limits.{joint_limits}
use Rattle.mj_rows.proofs.count.joint_limit_count.Given as goal

abbrev pub invariant-loop-j : goal.invariant-loop-j
invariant-loop-j l = record {
  counted : l.count ≡ length (joined l.j (joint_limits l.model l.state));
  few : l.count ≤ 2 * l.j;
}
