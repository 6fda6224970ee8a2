use Rattle.std.proofs.Common.{refl, inl, inr}
use Rattle.std.proofs.lemmas.Result.{err_from_is_err_and}
use Rattle.mj_check.specs.Lines.{dual_told}
use Rattle.mj_check.proofs.dual.judge_dual_row.Goals as goal

pub returns-in_err-sides-clause-line : goal.returns-in_err-sides-clause-line
returns-in_err-sides-clause-line c =
    let q = err_from_is_err_and c.from_residual.result c.from_residual.ensures.1 in
    rw (q.1, q.2) (inr (_, c.in_err-sides.ensures.line, refl))

pub returns-then-is_within-clause-line : goal.returns-then-is_within-clause-line
returns-then-is_within-clause-line c = inl ((dual_told c.in_ok-sides.sides c.find_dual_row.new.numbers, c.find_dual_row.new.scan.rest), c.in_ok-sides.ensures.line, inl (c.is_within.ensures.yes c.if-is_within.true, refl))

pub returns-else-is_within-clause-line : goal.returns-else-is_within-clause-line
returns-else-is_within-clause-line c = inl ((dual_told c.in_ok-sides.sides c.find_dual_row.new.numbers, c.find_dual_row.new.scan.rest), c.in_ok-sides.ensures.line, inr ((λ h. let t = c.is_within.ensures.only h in absurd cc), refl))
