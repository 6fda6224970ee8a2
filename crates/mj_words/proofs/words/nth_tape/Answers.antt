use Rattle.std.proofs.Common.{◌≡◌, true, map, string_bytes, sym, ap, ◌∙◌, arith, cond, Some, None}
use Rattle.std.proofs.lemmas.List.{length-map}
use Rattle.mj_words.specs.Words.{is_nth, value, value_count}
use Rattle.fx_whole.proofs.FirstLaws.{first_here}
use Rattle.mj_words.proofs.words.nth_tape.Goals as goal

pub returns-then-is_nth : goal.returns-then-is_nth
returns-then-is_nth c =
    let words = map string_bytes c.args.words.now in
    let count = length-map c.args.words.now string_bytes in
    let here : is_nth words c.args.k c.loop-j.j ≡ true = cc in
    sym (first_here c.loop-j.j (value_count words) (λ j. cond (is_nth words c.args.k j) (Some (value words j)) None) c.word_at.result.now (omega arith) c.loop-j.invariant (ap (λ b. cond b (Some (value words c.loop-j.j)) None) here ∙ ap Some (sym c.word_at.ensures)))
