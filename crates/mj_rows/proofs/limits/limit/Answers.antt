use Rattle.std.proofs.Common.{ℤ, false, ap, ◌∙◌}
use Rattle.mj_rows.specs.Constraint.{row_of, pushing, no_lever}
use Rattle.mj_rows.proofs.limits.limit.Goals as goal

pub returns-clause-row : goal.returns-clause-row
returns-clause-row c slope =
    c.pushing.ensures.row no_lever slope
    ∙ ap (λ (n : ℤ). row_of false (pushing c.args.source n c.args.x.now.soft no_lever slope)) c.less.ensures.value
