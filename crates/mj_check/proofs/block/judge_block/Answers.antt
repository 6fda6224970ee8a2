use Rattle.std.proofs.Common.{◌+◌, refl, inl, inr}
use Rattle.std.proofs.lemmas.Result.{err_from_is_err_and}
use Rattle.mj_check.specs.Judging.{found_as}
use Rattle.mj_check.specs.Verdict.{IsClosed, tells_bounds}
use Rattle.mj_check.proofs.block.judge_block.Goals as goal

pub returns-in_err-judge_motion-clause-block : goal.returns-in_err-judge_motion-clause-block
returns-in_err-judge_motion-clause-block c =
    let q = err_from_is_err_and c.from_residual.result c.from_residual.ensures.1 in
    rw (q.1, q.2) (inr (_, c.in_err-judge_motion.ensures.motion, refl))

pub returns-in_err-counts-clause-block : goal.returns-in_err-counts-clause-block
returns-in_err-counts-clause-block c =
    let q = err_from_is_err_and c.from_residual-in_err-counts.result c.from_residual-in_err-counts.ensures.1 in
    rw (q.1, q.2) (inl (c.judge_motion.new.scan.rest, c.in_ok-judge_motion.ensures.motion, inr (_, c.in_err-counts.ensures.line, refl)))

pub returns-in_err-judge_rows-clause-block : goal.returns-in_err-judge_rows-clause-block
returns-in_err-judge_rows-clause-block c =
    let q = err_from_is_err_and c.from_residual-in_err-judge_rows.result c.from_residual-in_err-judge_rows.ensures.1 in
    rw (q.1, q.2) (inl (c.judge_motion.new.scan.rest, c.in_ok-judge_motion.ensures.motion, inl ((c.in_ok-counts.counts, c.find_counts.new.scan.rest), c.in_ok-counts.ensures.line, inr (_, c.in_err-judge_rows.ensures.lines, refl))))

pub returns-clause-block : goal.returns-clause-block
returns-clause-block c =
    let h = c.args.header.now in
    let closed : IsClosed (tells_bounds h) h.nv (c.args.line + 6) c.judge_rows.new.rows.list (c.args.line + 7 + c.in_ok-counts.counts.rows) c.judge_rows.new.scan.rest (found_as (λ n. (n, c.judge_closing.new.scan.rest)) c.judge_closing.result) = rw c.requires.nv at c.judge_closing.ensures.closed in
    inl (c.judge_motion.new.scan.rest, c.in_ok-judge_motion.ensures.motion, inl ((c.in_ok-counts.counts, c.find_counts.new.scan.rest), c.in_ok-counts.ensures.line, inl ((c.judge_rows.new.rows.list, c.judge_rows.new.scan.rest), c.in_ok-judge_rows.ensures.lines, closed)))
