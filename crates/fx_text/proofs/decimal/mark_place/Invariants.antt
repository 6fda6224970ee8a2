use Rattle.std.proofs.Common.{◌≡◌, ◌+◌, drop}
use Rattle.fx_text.specs.Decimal.{first_of, is_mark}
use Rattle.fx_text.proofs.decimal.mark_place.Given as goal

abbrev pub invariant-loop-at : goal.invariant-loop-at
invariant-loop-at l = l.at + first_of is_mark (drop l.at l.text) ≡ first_of is_mark l.text
