use Rattle.std.proofs.Common.{ℕ, arith}
use Rattle.std.proofs.lemmas.Result.{err_from_is_err_and}
use Rattle.fx_whole.proofs.FirstLaws.{stop_here, pass_more}
use Rattle.mj_kin.specs.Columns.{column, column_fault}
use Rattle.mj_kin.proofs.columns.finish_columns.Goals as goal

pub returns-in_err-finish_column-clause-first : goal.returns-in_err-finish_column-clause-first
returns-in_err-finish_column-clause-first c =
    let p = err_from_is_err_and c.from_residual.result c.from_residual.ensures.1 in
    rw (p.1, p.2)
    (stop_here c.loop-d.d c.args.model.now.nv (λ (d : ℕ). column_fault d (column c.args.model.now c.args.state.now d)) _ (omega arith) c.loop-d.invariant.passed c.in_err-finish_column.ensures.first)

pub loop-d-preserved : goal.loop-d-preserved
loop-d-preserved c = record {
  room = c.finish_column.ensures.room;
  columns_ = c.in_ok-finish_column.ensures.columns;
  passed = pass_more c.loop-d.d (λ (d : ℕ). column_fault d (column c.args.model.now c.args.state.now d)) c.loop-d.invariant.passed c.in_ok-finish_column.ensures.first;
}
