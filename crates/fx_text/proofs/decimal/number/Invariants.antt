use Rattle.std.proofs.Common.{◌≡◌, take}
use Rattle.fx_text.specs.Decimal.{number}
use Rattle.fx_text.proofs.decimal.number.Given as goal

abbrev pub invariant-loop-byte : goal.invariant-loop-byte
invariant-loop-byte l = l.n ≡ number (take l.byte-index l.bytes)
