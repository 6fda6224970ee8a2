use Rattle.std.proofs.Common.{◌≡◌}
use Rattle.fx_whole.specs.Counting.{count_to}
use Rattle.mj_types.specs.StepValues.{is_active}
use Rattle.mj_run.proofs.summing.count_active.Given as goal

abbrev pub invariant-loop-i : goal.invariant-loop-i
invariant-loop-i l = record {
  counted : l.active ≡ count_to l.i (is_active l.rows.list);
}
