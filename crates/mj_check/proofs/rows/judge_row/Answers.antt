use Rattle.std.proofs.Common.{refl, inl, inr}
use Rattle.std.proofs.lemmas.Result.{err_from_is_err_and}
use Rattle.mj_check.proofs.rows.judge_row.Goals as goal

pub returns-in_err-row-clause-line : goal.returns-in_err-row-clause-line
returns-in_err-row-clause-line c =
    let q = err_from_is_err_and c.from_residual.result c.from_residual.ensures.1 in
    rw (q.1, q.2) (inr (_, c.in_err-row.ensures.line, refl))

pub returns-then-is_row_within-clause-line : goal.returns-then-is_row_within-clause-line
returns-then-is_row_within-clause-line c = inl ((c.in_ok-row.row, c.find_row.new.scan.rest), c.in_ok-row.ensures.line, inl (c.is_row_within.ensures.yes c.if-is_row_within.true, refl))

pub returns-else-is_row_within-clause-line : goal.returns-else-is_row_within-clause-line
returns-else-is_row_within-clause-line c = inl ((c.in_ok-row.row, c.find_row.new.scan.rest), c.in_ok-row.ensures.line, inr ((λ h. let t = c.is_row_within.ensures.only h in absurd cc), refl))
