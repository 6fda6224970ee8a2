use Rattle.std.proofs.Common.{◌≡◌, true, map, string_bytes, sym, ap, ◌∙◌, arith, cond, Some, None}
use Rattle.std.proofs.lemmas.List.{length-map}
use Rattle.std.specs.Str.{bytes_eq}
use Rattle.mj_words.specs.Words.{name, value, value_count}
use Rattle.fx_whole.proofs.FirstLaws.{first_here}
use Rattle.mj_words.proofs.words.given.Goals as goal

pub returns-then-eq : goal.returns-then-eq
returns-then-eq c =
    let words = map string_bytes c.args.words.now in
    let count = length-map c.args.words.now string_bytes in
    let same : bytes_eq (name words c.loop-j.j) c.args.text.now ≡ true = cc in
    sym (first_here c.loop-j.j (value_count words) (λ j. cond (bytes_eq (name words j) c.args.text.now) (Some (value words j)) None) c.word_at-then-eq.result.now (omega arith) c.loop-j.invariant (ap (λ b. cond b (Some (value words c.loop-j.j)) None) same ∙ ap Some (sym c.word_at-then-eq.ensures)))
