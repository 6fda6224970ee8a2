use Rattle.std.proofs.Common.{map, string_bytes, sym, arith}
use Rattle.std.proofs.lemmas.List.{length-map}
use Rattle.mj_words.specs.Words.{bad_value, value_count}
use Rattle.fx_whole.proofs.FirstLaws.{first_here}
use Rattle.mj_words.proofs.words.bad_values.Goals as goal

pub returns-in-Some : goal.returns-in-Some
returns-in-Some c =
    let words = map string_bytes c.args.words.now in
    let count = length-map c.args.words.now string_bytes in
    sym (first_here c.loop-j.j (value_count words) (bad_value c.args.command words) c.in-Some.at (omega arith) c.loop-j.invariant (sym c.in-Some.ensures))
