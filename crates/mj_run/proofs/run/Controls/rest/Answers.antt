use Rattle.std.proofs.Common.{ap, ◌∙◌, pos, replicate}
use Rattle.mj_types.specs.Parts.{plain}
use Rattle.mj_run.proofs.run.Controls.rest.Goals as goal

pub returns-in-Ok-clause-serves : goal.returns-in-Ok-clause-serves
returns-in-Ok-clause-serves c = λ steps. c.in-Ok.ensures ∙ ap (λ n. replicate n (plain (pos 0))) c.len.ensures
