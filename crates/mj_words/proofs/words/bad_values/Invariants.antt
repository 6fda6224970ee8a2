use Rattle.std.proofs.Common.{◌≡◌, map, string_bytes, None}
use Rattle.fx_whole.specs.First.{first_to}
use Rattle.mj_words.specs.Words.{bad_value}
use Rattle.mj_words.proofs.words.bad_values.Given as goal

abbrev pub invariant-loop-j : goal.invariant-loop-j
invariant-loop-j l = first_to l.j (bad_value l.command (map string_bytes l.words)) ≡ None
