use Rattle.std.proofs.Common.{sym, ◌∙◌}
use Rattle.mj_check.proofs.JudgingLaws.{line-missed}
use Rattle.mj_check.proofs.header.find_header.Goals as goal

pub returns-else-is_going-clause-line : goal.returns-else-is_going-clause-line
returns-else-is_going-clause-line c = line-missed 1 c.read_header-header.ensures c.requires.going (sym c.is_going.ensures ∙ c.if-is_going.false)
