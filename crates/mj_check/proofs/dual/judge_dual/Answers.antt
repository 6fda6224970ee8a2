use Rattle.std.proofs.Common.{[]}
use Rattle.std.proofs.lemmas.Result.{err_from_is_err_and}
use Rattle.mj_check.specs.Judging.{found_as}
use Rattle.mj_check.proofs.DualLaws.{dual-missed, dual-found}
use Rattle.mj_check.proofs.dual.judge_dual.Goals as goal

pub returns-in_err-find_head-clause-lines : goal.returns-in_err-find_head-clause-lines
returns-in_err-find_head-clause-lines c =
    let q = err_from_is_err_and c.from_residual.result c.from_residual.ensures.1 in
    rw (q.1, q.2) ([], tt, dual-missed c.args.bounds c.args.making.now.dual.nv c.len.result c.args.rows.now.list c.args.line c.args.scan.now.rest c.in_err-find_head.field-0.0 c.len.ensures.count c.in_err-find_head.ensures.line)

pub returns-clause-lines : goal.returns-clause-lines
returns-clause-lines c =
    let l = c.judge_dual_rows.ensures.lines in
    (l.0, l.1, dual-found c.args.bounds c.clear.new.self.nv c.args.making.now.dual.nv c.len.result c.args.rows.now.list c.args.line c.args.scan.now.rest c.find_head.new.scan.rest (found_as (λ _. (l.0, c.judge_dual_rows.new.scan.rest)) c.judge_dual_rows.result) c.len.ensures.count c.clear.ensures.room.nv c.in_ok-find_head.ensures.line l.2)
