use Rattle.std.proofs.Common.{refl, inl, inr}
use Rattle.std.proofs.lemmas.Result.{err_from_is_err_and}
use Rattle.mj_check.proofs.text.judge_rest.Goals as goal

pub returns-in_err-blocks-clause-rest : goal.returns-in_err-blocks-clause-rest
returns-in_err-blocks-clause-rest c =
    let q = err_from_is_err_and c.from_residual.result c.from_residual.ensures.1 in
    rw (q.1, q.2) (inr (_, c.in_err-blocks.ensures.blocks, refl))

pub returns-in_err-judge_end-clause-rest : goal.returns-in_err-judge_end-clause-rest
returns-in_err-judge_end-clause-rest c =
    let q = err_from_is_err_and c.from_residual-in_err-judge_end.result c.from_residual-in_err-judge_end.ensures.1 in
    rw (q.1, q.2) (inl ((c.in_ok-blocks.blocks.count, (c.in_ok-blocks.blocks.line, c.judge_blocks.new.scan.rest)), c.in_ok-blocks.ensures.blocks, inr (_, c.in_err-judge_end.ensures, refl)))

pub returns-clause-rest : goal.returns-clause-rest
returns-clause-rest c = inl ((c.in_ok-blocks.blocks.count, (c.in_ok-blocks.blocks.line, c.judge_blocks.new.scan.rest)), c.in_ok-blocks.ensures.blocks, inl (tt, c.in_ok-judge_end.ensures, refl))
