use Rattle.std.proofs.Common.{◌≡◌, ◌*◌, ◌≤◌, length}
use Rattle.fx_whole.specs.Joined.{joined}
use Rattle.mj_types.specs.Parts.{number_at}
use Rattle.mj_rows.specs.Limits.{tendon_limits}
use Rattle.mj_rows.proofs.count.tendon_limit_count.Given as goal

abbrev pub invariant-loop-t : goal.invariant-loop-t
invariant-loop-t l = record {
  counted : l.count ≡ length (joined l.t (tendon_limits l.model (number_at l.applied.length)));
  few : l.count ≤ 2 * l.t;
}
