use Rattle.std.proofs.Common.{sym, ◌∙◌}
use Rattle.mj_check.proofs.JudgingLaws.{passed-found, passed-missed}
use Rattle.mj_check.proofs.closing.find_stop.Goals as goal

pub returns-then-is_going-clause-line : goal.returns-then-is_going-clause-line
returns-then-is_going-clause-line c = passed-found c.args.line c.read_stop.ensures.1 (sym c.is_going.ensures ∙ c.if-is_going.true)

pub returns-else-is_going-clause-line : goal.returns-else-is_going-clause-line
returns-else-is_going-clause-line c = passed-missed c.args.line c.read_stop.ensures.1 c.requires.going (sym c.is_going.ensures ∙ c.if-is_going.false)
