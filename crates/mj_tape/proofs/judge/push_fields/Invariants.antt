use Rattle.std.proofs.Common.{◌≡◌, suc, ◌++◌, drop, map}
use Rattle.csv.specs.Records.{fields_of}
use Rattle.mj_types.specs.Control.{AreSmall}
use Rattle.mj_tape.specs.Judging.{bad_field, raws, control_or_zero}
use Rattle.mj_tape.proofs.judge.push_fields.Given as goal

abbrev pub invariant-loop-column : goal.invariant-loop-column
invariant-loop-column l =
    (bad_field l.number (suc l.column) (drop l.column (fields_of l.fields)) ≡ bad_field l.number 1 (fields_of l.fields))
    × (raws l.values.items ++ map control_or_zero (drop l.column (fields_of l.fields)) ≡ raws l.fn.values.items ++ map control_or_zero (fields_of l.fields))
    × (AreSmall l.fn.values.items → AreSmall l.values.items)
