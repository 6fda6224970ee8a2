use Rattle.std.proofs.Common.{◌≤◌, subst}
use Rattle.mj_words.specs.declared.table.Command.{Command}
use Rattle.mj_words.specs.declared.table.Name.TheVariants as named
use Rattle.mj_words.specs.Table.{rule, most_of}
use Rattle.mj_words.proofs.words.bench_step_count.Goals as goal

pub returns-clause-few : goal.returns-clause-few
returns-clause-few c =
    let P = λ (k : Command). c.number_under.result ≤ most_of (rule k named.Steps).form in subst P c.requires c.number_under.ensures.most
