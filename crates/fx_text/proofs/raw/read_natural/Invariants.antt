use Rattle.std.proofs.Common.{◌≡◌, ◌+◌, ◌-◌, ◌^◌, ◌<◌, ◌≤◌, ℕ, min, take, length, get_or}
use Rattle.std.specs.Int.{IsInRange}
use Rattle.std.specs.Str.Parse.{digits_value}
use Rattle.fx_text.proofs.raw.read_natural.Given as goal

abbrev pub invariant-loop-byte : goal.invariant-loop-byte
invariant-loop-byte l = record {
  digits : (j : ℕ) → j < l.byte-index → IsInRange 48 57 (get_or l.text j 0);
  number : l.n ≡ min (digits_value 10 (take l.byte-index l.text)) (2 ^ 128 - 1);
}
