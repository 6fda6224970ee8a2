use Rattle.std.proofs.lemmas.Result.{err_from_is_err_and}
use Rattle.mj_check.specs.Numbers.{no_dual}
use Rattle.mj_check.proofs.dual.take_dual_row.Goals as goal

pub returns-in_err-sides-clause-line : goal.returns-in_err-sides-clause-line
returns-in_err-sides-clause-line c =
    let q = err_from_is_err_and c.from_residual.result c.from_residual.ensures.1 in
    rw (q.1, q.2) (no_dual, tt, c.in_err-sides.ensures.line)
