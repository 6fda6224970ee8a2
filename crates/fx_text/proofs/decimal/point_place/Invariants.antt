use Rattle.std.proofs.Common.{◌≡◌, ◌+◌, drop}
use Rattle.fx_text.specs.Decimal.{first_of, is_point}
use Rattle.fx_text.proofs.decimal.point_place.Given as goal

abbrev pub invariant-loop-at : goal.invariant-loop-at
invariant-loop-at l = l.at + first_of is_point (drop l.at l.text) ≡ first_of is_point l.text
