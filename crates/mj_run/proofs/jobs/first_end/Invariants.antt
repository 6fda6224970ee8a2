use Rattle.std.proofs.Common.{◌≡◌, None, map, slice_index_or}
use Rattle.fx_whole.specs.First.{first_to}
use Rattle.mj_types.specs.declared.range.End.TheVariants as finish
use Rattle.mj_run.specs.Batch.{early, held_end}
use Rattle.mj_run.proofs.jobs.first_end.Given as goal

abbrev pub invariant-loop-i : goal.invariant-loop-i
invariant-loop-i l = record {
  passed : first_to l.i (λ t. early (slice_index_or (map held_end l.jobs) t finish.Done)) ≡ None;
}
