use Rattle.std.proofs.Common.{◌≡◌, map, string_bytes, Some, None, cond}
use Rattle.fx_whole.specs.First.{first_to}
use Rattle.mj_words.specs.Words.{is_nth, value}
use Rattle.mj_words.proofs.words.nth_tape.Given as goal

abbrev pub invariant-loop-j : goal.invariant-loop-j
invariant-loop-j l =
    let words = map string_bytes l.words in
    first_to l.j (λ j. cond (is_nth words l.k j) (Some (value words j)) None) ≡ None
