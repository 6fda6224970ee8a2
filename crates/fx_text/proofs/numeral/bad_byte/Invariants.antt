use Rattle.std.proofs.Common.{◌≡◌, ◌+◌, drop}
use Rattle.fx_text.specs.Numeral.{completes, reach, is_numeral, prefix_length}
use Rattle.fx_text.proofs.numeral.bad_byte.Given as goal

abbrev pub invariant-loop-at : goal.invariant-loop-at
invariant-loop-at l =
    (completes l.place (drop l.at l.text) ≡ is_numeral l.text)
    × (l.at + reach l.place (drop l.at l.text) ≡ prefix_length l.text)
