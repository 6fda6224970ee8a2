use Rattle.std.proofs.Common.{◌≡◌, ◌≤◌, map, string_bytes}
use Rattle.fx_whole.specs.Counting.{count_to}
use Rattle.mj_words.specs.Words.{is_tape}
use Rattle.mj_words.proofs.words.tapes_before.Given as goal

abbrev pub invariant-loop-j : goal.invariant-loop-j
invariant-loop-j l = record {
  counted : l.count ≡ count_to l.j (is_tape (map string_bytes l.words));
  few : l.count ≤ l.j;
}
