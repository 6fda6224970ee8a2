use Rattle.std.proofs.Common.{None, ◌++◌}
use Rattle.std.proofs.lemmas.Result.{err_from_is_err_and}
use Rattle.mj_types.specs.Parts.{number_at}
use Rattle.mj_types.specs.Placed.{placing_of}
use Rattle.mj_rows.specs.Constraints.{all_equalities, all_frictions, all_joint_limits, all_tendon_limits, all_edges}
use Rattle.mj_dual.specs.Reductions.{dynamics}
use Rattle.mj_dual.proofs.TakingLaws.{added-then, added-stop}
use Rattle.mj_dual.proofs.assembling.take_all.Goals as goal

pub returns-in_err-take_joints : goal.returns-in_err-take_joints
returns-in_err-take_joints c =
    let y = dynamics c.args.model.now c.args.state.now c.args.factor.now c.args.smooth.now in
    let p = err_from_is_err_and c.from_residual.result c.from_residual.ensures.1 in
    rw (p.1, p.2)
    (added-stop c.args.model.now y c.args.rows.now c.take_joints.new.rows c.args.out.now c.take_joints.new.out ((all_equalities c.args.model.now c.args.state.now ++ all_frictions c.args.model.now ++ all_joint_limits c.args.model.now c.args.state.now) ++ all_tendon_limits c.args.model.now (number_at c.args.applied.now.length)) (all_edges c.args.model.now (placing_of c.args.frames.now) c.args.contacts.now.list.list) _
    (added-stop c.args.model.now y c.args.rows.now c.take_joints.new.rows c.args.out.now c.take_joints.new.out ((all_equalities c.args.model.now c.args.state.now ++ all_frictions c.args.model.now ++ all_joint_limits c.args.model.now c.args.state.now)) (all_tendon_limits c.args.model.now (number_at c.args.applied.now.length)) _ c.in_err-take_joints.ensures))

pub returns-in_err-take_tendon_limits : goal.returns-in_err-take_tendon_limits
returns-in_err-take_tendon_limits c =
    let y = dynamics c.args.model.now c.args.state.now c.args.factor.now c.args.smooth.now in
    let p = err_from_is_err_and c.from_residual-in_err-take_tendon_limits.result c.from_residual-in_err-take_tendon_limits.ensures.1 in
    rw (p.1, p.2)
    (added-stop c.args.model.now y c.args.rows.now c.take_tendon_limits.new.rows c.args.out.now c.take_tendon_limits.new.out ((all_equalities c.args.model.now c.args.state.now ++ all_frictions c.args.model.now ++ all_joint_limits c.args.model.now c.args.state.now) ++ all_tendon_limits c.args.model.now (number_at c.args.applied.now.length)) (all_edges c.args.model.now (placing_of c.args.frames.now) c.args.contacts.now.list.list) _
    (added-then c.args.model.now y c.args.rows.now c.take_joints.new.rows c.take_tendon_limits.new.rows c.args.out.now c.take_joints.new.out c.take_tendon_limits.new.out ((all_equalities c.args.model.now c.args.state.now ++ all_frictions c.args.model.now ++ all_joint_limits c.args.model.now c.args.state.now)) (all_tendon_limits c.args.model.now (number_at c.args.applied.now.length)) _ c.in_ok-take_joints.ensures c.in_err-take_tendon_limits.ensures))

pub returns-in_err-take_contacts : goal.returns-in_err-take_contacts
returns-in_err-take_contacts c =
    let y = dynamics c.args.model.now c.args.state.now c.args.factor.now c.args.smooth.now in
    let p = err_from_is_err_and c.from_residual-in_err-take_contacts.result c.from_residual-in_err-take_contacts.ensures.1 in
    rw (p.1, p.2)
    (added-then c.args.model.now y c.args.rows.now c.take_tendon_limits.new.rows c.take_contacts.new.rows c.args.out.now c.take_tendon_limits.new.out c.take_contacts.new.out ((all_equalities c.args.model.now c.args.state.now ++ all_frictions c.args.model.now ++ all_joint_limits c.args.model.now c.args.state.now) ++ all_tendon_limits c.args.model.now (number_at c.args.applied.now.length)) (all_edges c.args.model.now (placing_of c.args.frames.now) c.args.contacts.now.list.list) _
    (added-then c.args.model.now y c.args.rows.now c.take_joints.new.rows c.take_tendon_limits.new.rows c.args.out.now c.take_joints.new.out c.take_tendon_limits.new.out ((all_equalities c.args.model.now c.args.state.now ++ all_frictions c.args.model.now ++ all_joint_limits c.args.model.now c.args.state.now)) (all_tendon_limits c.args.model.now (number_at c.args.applied.now.length)) None c.in_ok-take_joints.ensures c.in_ok-take_tendon_limits.ensures)
    c.in_err-take_contacts.ensures)

pub returns : goal.returns
returns c =
    let y = dynamics c.args.model.now c.args.state.now c.args.factor.now c.args.smooth.now in
    added-then c.args.model.now y c.args.rows.now c.take_tendon_limits.new.rows c.take_contacts.new.rows c.args.out.now c.take_tendon_limits.new.out c.take_contacts.new.out ((all_equalities c.args.model.now c.args.state.now ++ all_frictions c.args.model.now ++ all_joint_limits c.args.model.now c.args.state.now) ++ all_tendon_limits c.args.model.now (number_at c.args.applied.now.length)) (all_edges c.args.model.now (placing_of c.args.frames.now) c.args.contacts.now.list.list) None
    (added-then c.args.model.now y c.args.rows.now c.take_joints.new.rows c.take_tendon_limits.new.rows c.args.out.now c.take_joints.new.out c.take_tendon_limits.new.out ((all_equalities c.args.model.now c.args.state.now ++ all_frictions c.args.model.now ++ all_joint_limits c.args.model.now c.args.state.now)) (all_tendon_limits c.args.model.now (number_at c.args.applied.now.length)) None c.in_ok-take_joints.ensures c.in_ok-take_tendon_limits.ensures)
    c.in_ok-take_contacts.ensures
