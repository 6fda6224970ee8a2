use Rattle.std.proofs.Common.{◌≡◌, ◌+◌, min, take}
use Rattle.mj_words.specs.Numbers.{digits_value}
use Rattle.mj_words.proofs.numbers.capped_value.Given as goal

abbrev pub invariant-loop-digit : goal.invariant-loop-digit
invariant-loop-digit l = l.n ≡ min (digits_value (take l.digit-index l.digits)) (l.most + 1)
