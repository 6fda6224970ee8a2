use Rattle.std.proofs.Common.{◌≡◌, map, take}
use Rattle.mj_form.specs.Keys.{shown_byte}
use Rattle.mj_form.proofs.key.shown.Given as goal

abbrev pub invariant-loop-byte : goal.invariant-loop-byte
invariant-loop-byte l = l.bytes.items ≡ map shown_byte (take l.byte-index l.byte-items)
