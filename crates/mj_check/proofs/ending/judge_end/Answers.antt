use Rattle.std.proofs.Common.{refl, inl, inr}
use Rattle.std.proofs.lemmas.Result.{err_from_is_err_and}
use Rattle.mj_check.proofs.ending.judge_end.Goals as goal

pub returns-in_err-find_end : goal.returns-in_err-find_end
returns-in_err-find_end c =
    let q = err_from_is_err_and c.from_residual.result c.from_residual.ensures.1 in
    rw (q.1, q.2) (inr (_, c.in_err-find_end.ensures.line, refl))

pub returns-then-is_done : goal.returns-then-is_done
returns-then-is_done c = inl (_, c.in_ok-find_end.ensures.line, inl (c.is_done.ensures.yes c.if-is_done.true, refl))

pub returns-else-is_done : goal.returns-else-is_done
returns-else-is_done c = inl (_, c.in_ok-find_end.ensures.line, inr ((λ e. let t = c.is_done.ensures.only e in absurd cc), refl))
