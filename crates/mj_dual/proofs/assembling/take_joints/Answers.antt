use Rattle.std.proofs.Common.{None, ◌++◌}
use Rattle.std.proofs.lemmas.Result.{err_from_is_err_and}
use Rattle.mj_rows.specs.Constraints.{all_equalities, all_frictions, all_joint_limits}
use Rattle.mj_dual.specs.Reductions.{dynamics}
use Rattle.mj_dual.proofs.TakingLaws.{added-then, added-stop}
use Rattle.mj_dual.proofs.assembling.take_joints.Goals as goal

pub returns-in_err-take_equalities : goal.returns-in_err-take_equalities
returns-in_err-take_equalities c =
    let y = dynamics c.args.model.now c.args.state.now c.args.factor.now c.args.smooth.now in
    let p = err_from_is_err_and c.from_residual.result c.from_residual.ensures.1 in
    rw (p.1, p.2)
    (added-stop c.args.model.now y c.args.rows.now c.take_equalities.new.rows c.args.out.now c.take_equalities.new.out (all_equalities c.args.model.now c.args.state.now ++ all_frictions c.args.model.now) (all_joint_limits c.args.model.now c.args.state.now) _
    (added-stop c.args.model.now y c.args.rows.now c.take_equalities.new.rows c.args.out.now c.take_equalities.new.out (all_equalities c.args.model.now c.args.state.now) (all_frictions c.args.model.now) _ c.in_err-take_equalities.ensures))

pub returns-in_err-take_frictions : goal.returns-in_err-take_frictions
returns-in_err-take_frictions c =
    let y = dynamics c.args.model.now c.args.state.now c.args.factor.now c.args.smooth.now in
    let p = err_from_is_err_and c.from_residual-in_err-take_frictions.result c.from_residual-in_err-take_frictions.ensures.1 in
    rw (p.1, p.2)
    (added-stop c.args.model.now y c.args.rows.now c.take_frictions.new.rows c.args.out.now c.take_frictions.new.out (all_equalities c.args.model.now c.args.state.now ++ all_frictions c.args.model.now) (all_joint_limits c.args.model.now c.args.state.now) _
    (added-then c.args.model.now y c.args.rows.now c.take_equalities.new.rows c.take_frictions.new.rows c.args.out.now c.take_equalities.new.out c.take_frictions.new.out (all_equalities c.args.model.now c.args.state.now) (all_frictions c.args.model.now) _ c.in_ok-take_equalities.ensures c.in_err-take_frictions.ensures))

pub returns-in_err-take_joint_limits : goal.returns-in_err-take_joint_limits
returns-in_err-take_joint_limits c =
    let y = dynamics c.args.model.now c.args.state.now c.args.factor.now c.args.smooth.now in
    let p = err_from_is_err_and c.from_residual-in_err-take_joint_limits.result c.from_residual-in_err-take_joint_limits.ensures.1 in
    rw (p.1, p.2)
    (added-then c.args.model.now y c.args.rows.now c.take_frictions.new.rows c.take_joint_limits.new.rows c.args.out.now c.take_frictions.new.out c.take_joint_limits.new.out (all_equalities c.args.model.now c.args.state.now ++ all_frictions c.args.model.now) (all_joint_limits c.args.model.now c.args.state.now) _
    (added-then c.args.model.now y c.args.rows.now c.take_equalities.new.rows c.take_frictions.new.rows c.args.out.now c.take_equalities.new.out c.take_frictions.new.out (all_equalities c.args.model.now c.args.state.now) (all_frictions c.args.model.now) None c.in_ok-take_equalities.ensures c.in_ok-take_frictions.ensures)
    c.in_err-take_joint_limits.ensures)

pub returns : goal.returns
returns c =
    let y = dynamics c.args.model.now c.args.state.now c.args.factor.now c.args.smooth.now in
    added-then c.args.model.now y c.args.rows.now c.take_frictions.new.rows c.take_joint_limits.new.rows c.args.out.now c.take_frictions.new.out c.take_joint_limits.new.out (all_equalities c.args.model.now c.args.state.now ++ all_frictions c.args.model.now) (all_joint_limits c.args.model.now c.args.state.now) None
    (added-then c.args.model.now y c.args.rows.now c.take_equalities.new.rows c.take_frictions.new.rows c.args.out.now c.take_equalities.new.out c.take_frictions.new.out (all_equalities c.args.model.now c.args.state.now) (all_frictions c.args.model.now) None c.in_ok-take_equalities.ensures c.in_ok-take_frictions.ensures)
    c.in_ok-take_joint_limits.ensures
