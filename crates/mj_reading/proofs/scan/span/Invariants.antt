use Rattle.std.proofs.Common.{◌≡◌, ◌+◌, drop}
use Rattle.mj_reading.specs.Reading.{is_number_byte, span}
use Rattle.mj_reading.proofs.scan.span.Given as goal

abbrev pub invariant-loop-at : goal.invariant-loop-at
invariant-loop-at l = l.at + span is_number_byte (drop l.at l.text) ≡ span is_number_byte l.text
