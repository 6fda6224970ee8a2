use Rattle.std.proofs.Common.{sym, ◌∙◌}
use Rattle.mj_check.proofs.JudgingLaws.{line-missed}
use Rattle.mj_check.proofs.dual.find_head.Goals as goal

pub returns-else-is_going-clause-line : goal.returns-else-is_going-clause-line
returns-else-is_going-clause-line c = line-missed c.args.line c.read_head.ensures c.requires.going (sym c.is_going.ensures ∙ c.if-is_going.false)
