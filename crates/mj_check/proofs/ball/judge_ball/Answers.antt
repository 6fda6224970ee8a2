use Rattle.std.proofs.Common.{refl, inl, inr, drop}
use Rattle.std.proofs.lemmas.Result.{err_from_is_err_and}
use Rattle.mj_check.proofs.ball.judge_ball.Goals as goal

pub returns-in_err-find_ball-clause-ball : goal.returns-in_err-find_ball-clause-ball
returns-in_err-find_ball-clause-ball c =
    let q = err_from_is_err_and c.from_residual.result c.from_residual.ensures.1 in
    rw (q.1, q.2) (inl ((drop 5 c.args.scan.now.rest, c.begins.ensures.yes c.if-begins.true), inr (_, c.in_err-find_ball.ensures.line, refl)))

pub returns-in_ok-find_ball-clause-ball : goal.returns-in_ok-find_ball-clause-ball
returns-in_ok-find_ball-clause-ball c = inl ((drop 5 c.args.scan.now.rest, c.begins.ensures.yes c.if-begins.true), inl (_, c.in_ok-find_ball.ensures.line, refl))

pub returns-else-begins-clause-ball : goal.returns-else-begins-clause-ball
returns-else-begins-clause-ball c = inr ((λ b. let t = c.begins.ensures.only b.0 b.1 in absurd cc), refl)
