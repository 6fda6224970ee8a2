use Rattle.std.proofs.Common.{◌≡◌}
use Rattle.fx_whole.specs.Counting.{count_to}
use Rattle.mj_types.specs.StepValues.{row}
use Rattle.mj_run.proofs.summing.count_idle.Given as goal

abbrev pub invariant-loop-i : goal.invariant-loop-i
invariant-loop-i l = record {
  counted : l.idle ≡ count_to l.i (λ i. (row l.rows.list i).idle);
}
