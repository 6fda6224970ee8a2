use Rattle.std.proofs.Common.{◌≡◌, ◌≤◌, length}
use Rattle.fx_whole.specs.Joined.{joined}
use Rattle.mj_rows.specs.Joints.{frictions}
use Rattle.mj_rows.proofs.count.friction_count.Given as goal

abbrev pub invariant-loop-j : goal.invariant-loop-j
invariant-loop-j l = record {
  counted : l.count ≡ length (joined l.j (frictions l.model));
  few : l.count ≤ l.j;
}
