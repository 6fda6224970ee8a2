use Rattle.std.proofs.Common.{◌≤◌, ℕ, map, string_bytes, sym, subst, codes}
use Rattle.mj_words.specs.declared.table.Command.{Command}
use Rattle.mj_words.specs.Table.{rule_of}
use Rattle.mj_words.specs.Words.{tape_count}
use Rattle.mj_words.proofs.Accepted.{accepted-have_no_bad_place}
use Rattle.mj_words.proofs.words.tape_count.Goals as goal

pub returns-clause-few : goal.returns-clause-few
returns-clause-few c = λ good batch.
    let words = map string_bytes c.args.words.now in
    let ok = (accepted-have_no_bad_place words).0 good in
    let P = λ (k : Command). tape_count words ≤ (rule_of k (codes "--tape")).times in
    let few : tape_count words ≤ 64 = subst P batch (ok.often (codes "--tape")) in
    let Q = λ (n : ℕ). n ≤ 64 in
    subst Q (sym c.all_tapes.ensures) few
