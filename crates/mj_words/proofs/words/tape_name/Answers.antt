use Rattle.std.proofs.Common.{◌≡◌, true, map, string_bytes, is_some, ap, ◌∙◌}
use Rattle.mj_words.specs.Words.{is_tape, value, value_count, nth_tape}
use Rattle.mj_words.proofs.Counts.{nth-found}
use Rattle.mj_words.proofs.words.tape_name.Goals as goal

pub returns-in-None : goal.returns-in-None
returns-in-None c =
    let words = map string_bytes c.args.words.now in
    let known : is_some (nth_tape words c.args.k) ≡ true = nth-found (is_tape words) (value words) c.args.k (value_count words) c.requires in
    absurd (let none = ap is_some c.in-None.ensures ∙ known in cc)
