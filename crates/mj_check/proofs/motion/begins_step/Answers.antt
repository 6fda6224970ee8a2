use Rattle.std.proofs.Common.{ap, sym, ◌∙◌}
use Rattle.mj_check.proofs.motion.begins_step.Goals as goal

pub returns-clause-yes : goal.returns-clause-yes
returns-clause-yes c = λ g. (c.read_step.new.scan.rest, ap (λ a. a.rest) (sym c.copy-ahead.ensures) ∙ c.read_step.ensures.found (sym c.is_going.ensures ∙ g))

pub returns-clause-only : goal.returns-clause-only
returns-clause-only c = λ b. c.is_going.ensures ∙ (c.read_step.ensures.only (ap (λ a. a.going) c.copy-ahead.ensures ∙ c.requires) tt b.0 tt tt (ap (λ a. a.rest) c.copy-ahead.ensures ∙ b.1)).0
