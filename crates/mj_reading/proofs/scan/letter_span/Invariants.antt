use Rattle.std.proofs.Common.{◌≡◌, ◌+◌, drop}
use Rattle.mj_reading.specs.Reading.{is_letter, span}
use Rattle.mj_reading.proofs.scan.letter_span.Given as goal

abbrev pub invariant-loop-at : goal.invariant-loop-at
invariant-loop-at l = l.at + span is_letter (drop l.at l.text) ≡ span is_letter l.text
