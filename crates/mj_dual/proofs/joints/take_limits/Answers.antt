use Rattle.std.proofs.Common.{None}
use Rattle.std.proofs.lemmas.Result.{err_from_is_err_and}
use Rattle.mj_rows.specs.Limits.{low_limits, high_limits}
use Rattle.mj_dual.specs.Reductions.{dynamics}
use Rattle.mj_dual.proofs.TakingLaws.{added-then, added-stop}
use Rattle.mj_dual.proofs.joints.take_limits.Goals as goal

pub returns-in_err-take_low : goal.returns-in_err-take_low
returns-in_err-take_low c =
    let p = err_from_is_err_and c.from_residual.result c.from_residual.ensures.1 in
    rw (p.1, p.2)
    (added-stop c.args.model.now (dynamics c.args.model.now c.args.state.now c.args.factor.now c.args.smooth.now) c.args.rows.now c.take_low.new.rows c.args.out.now c.take_low.new.out (low_limits c.args.model.now c.args.state.now c.args.j) (high_limits c.args.model.now c.args.state.now c.args.j) _ c.in_err-take_low.ensures)

pub returns-in_err-take_high : goal.returns-in_err-take_high
returns-in_err-take_high c =
    let p = err_from_is_err_and c.from_residual-in_err-take_high.result c.from_residual-in_err-take_high.ensures.1 in
    rw (p.1, p.2)
    (added-then c.args.model.now (dynamics c.args.model.now c.args.state.now c.args.factor.now c.args.smooth.now) c.args.rows.now c.take_low.new.rows c.take_high.new.rows c.args.out.now c.take_low.new.out c.take_high.new.out
    (low_limits c.args.model.now c.args.state.now c.args.j) (high_limits c.args.model.now c.args.state.now c.args.j) _ c.in_ok-take_low.ensures c.in_err-take_high.ensures)

pub returns : goal.returns
returns c =
    added-then c.args.model.now (dynamics c.args.model.now c.args.state.now c.args.factor.now c.args.smooth.now) c.args.rows.now c.take_low.new.rows c.take_high.new.rows c.args.out.now c.take_low.new.out c.take_high.new.out
    (low_limits c.args.model.now c.args.state.now c.args.j) (high_limits c.args.model.now c.args.state.now c.args.j) None c.in_ok-take_low.ensures c.in_ok-take_high.ensures
