use Rattle.std.proofs.Common.{◌≡◌, map, string_bytes, Some, None, cond}
use Rattle.std.specs.Str.{bytes_eq}
use Rattle.fx_whole.specs.First.{first_to}
use Rattle.mj_words.specs.Words.{name, value}
use Rattle.mj_words.proofs.words.given.Given as goal

abbrev pub invariant-loop-j : goal.invariant-loop-j
invariant-loop-j l =
    let words = map string_bytes l.words in
    first_to l.j (λ j. cond (bytes_eq (name words j) l.text) (Some (value words j)) None) ≡ None
