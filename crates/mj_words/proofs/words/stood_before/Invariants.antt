use Rattle.std.proofs.Common.{◌≡◌, ◌≤◌, map, string_bytes}
use Rattle.std.specs.Str.{bytes_eq}
use Rattle.fx_whole.specs.Counting.{count_to}
use Rattle.mj_words.specs.Words.{name}
use Rattle.mj_words.proofs.words.stood_before.Given as goal

abbrev pub invariant-loop-i : goal.invariant-loop-i
invariant-loop-i l = record {
  counted : l.count ≡ count_to l.i (λ i. bytes_eq (name (map string_bytes l.words) i) (name (map string_bytes l.words) l.j));
  few : l.count ≤ l.i;
}
