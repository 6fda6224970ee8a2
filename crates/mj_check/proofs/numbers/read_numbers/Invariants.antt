use Rattle.std.proofs.Common.{◌≡◌, length}
use Rattle.mj_types.specs.Duals.{wide_at}
use Rattle.mj_trace.specs.Lines.{numbers_text}
use Rattle.mj_reading.specs.Reading.{Read, NoNumber}
use Rattle.mj_check.specs.Lines.{Agree, AreWide}
use Rattle.mj_check.proofs.numbers.read_numbers.Given as goal

abbrev pub invariant-loop-i : goal.invariant-loop-i
invariant-loop-i l = record {
  len : length l.out ≡ length l.initial.out;
  read : Read (Agree l.i) (AreWide l.i) (numbers_text l.i) NoNumber l.initial.scan (wide_at l.out) l.scan;
}
