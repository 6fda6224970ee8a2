use Rattle.std.proofs.Common.{ℕ, ◌+◌, ap}
use Rattle.std.proofs.lemmas.Result.{err_from_is_err_and}
use Rattle.mj_types.specs.Parts.{number_at}
use Rattle.mj_dual.specs.Reductions.{dynamics}
use Rattle.mj_dual.proofs.RowLaws.{one-refused, one-taken, none-some}
use Rattle.mj_dual.proofs.taking.take_row.Goals as goal

pub returns-in_err-entry : goal.returns-in_err-entry
returns-in_err-entry c = λ c' is whole passed.
    let y = dynamics c.args.model.now c.args.state.now c.args.factor.now c.args.smooth.now in
    let at = ap (λ (k : ℕ). k + 1) c.len-number.ensures.count in
    let r = err_from_is_err_and c.from_residual.result c.from_residual.ensures.1 in
    rw (r.1, r.2)
    (one-refused c.args.model.now y c' c.args.row.now c.args.rows.now c.args.out.now _ (number_at c.args.jacobian.now) _ c.requires.open_ is whole at passed c.in_err-entry.ensures.first)

pub returns : goal.returns
returns c = λ c' is whole passed.
    let y = dynamics c.args.model.now c.args.state.now c.args.factor.now c.args.smooth.now in
    let at = ap (λ (k : ℕ). k + 1) c.len-number.ensures.count in
    one-taken c.args.model.now y c' c.args.row.now c.args.rows.now c.list_row.new.rows c.args.out.now c.hold.new.out _ c.is_none.result c.in_ok-entry.entry
    c.args.jacobian.now c.reduce.new.out c.requires.open_ is whole c.requires.jacobian at passed c.in_ok-entry.ensures.first c.in_ok-entry.ensures.value c.in_ok-entry.ensures.numbers
    (none-some c.in_ok-entry.entry c.is_none.result c.is_none.ensures) c.list_row.ensures.list c.list_row.ensures.jac c.list_row.ensures.row c.list_row.ensures.reduced c.hold.ensures.held c.hold.ensures.room c.hold.ensures.solvable
