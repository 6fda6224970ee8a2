use Rattle.std.proofs.Common.{◌≡◌, ◌<◌, ◌≤◌, ℕ, ℤ, pos, None, Some, length, refl, sym, ap, ap₂, ◌∙◌, subst, arith}
use Rattle.std.proofs.lemmas.Result.{err_from_is_err_and}
use Rattle.fx_whole.specs.First.{or_first, first_to}
use Rattle.fx_whole.proofs.FirstLaws.{stop_first, pass_first}
use Rattle.fx_whole.proofs.EntryLaws.{below-is}
use Rattle.mj_types.specs.declared.state.State.{State}
use Rattle.mj_types.specs.Parts.{plain, joint, number_at}
use Rattle.mj_euler.specs.Advance.{velocity, velocities, velocity_fault, position_fault, norm_fault}
use Rattle.mj_euler.specs.Written.{AreAllMoved, AreAllTurned}
use Rattle.mj_euler.proofs.States.{numbers-are, fit-positions, are-positions}
use Rattle.mj_euler.proofs.integration.integrate.Goals as goal

pub returns-in_err-move_joints-clause-first : goal.returns-in_err-move_joints-clause-first
returns-in_err-move_joints-clause-first c =
    let m = c.args.model.now in
    let s = c.args.state.now in
    let a = number_at c.args.accel.now in
    let v : number_at c.move_velocities.new.v ≡ velocities m s a = below-is (λ x. x.mid) (plain (pos 0)) c.move_velocities.new.v m.nv (velocity m s a) (c.move_velocities.ensures.len ∙ c.requires.room.v) c.in_ok-move_velocities.ensures.value in
    let r = err_from_is_err_and c.from_residual-in_err-move_joints.result c.from_residual-in_err-move_joints.ensures.1 in
    rw (r.1, r.2)
    (pass_first (first_to m.nv (velocity_fault m s a)) _ _ c.in_ok-move_velocities.ensures.first
    (stop_first (first_to (length m.joints) (λ j. position_fault m s (velocities m s a) (joint m.joints j))) _ _
    (c.in_err-move_joints.ensures.first ∙ ap (λ w. first_to (length m.joints) (λ j. position_fault m s w (joint m.joints j))) v)))

pub returns-in_err-turn_joints-clause-first : goal.returns-in_err-turn_joints-clause-first
returns-in_err-turn_joints-clause-first c =
    let m = c.args.model.now in
    let s = c.args.state.now in
    let a = number_at c.args.accel.now in
    let v : number_at c.move_velocities.new.v ≡ velocities m s a = below-is (λ x. x.mid) (plain (pos 0)) c.move_velocities.new.v m.nv (velocity m s a) (c.move_velocities.ensures.len ∙ c.requires.room.v) c.in_ok-move_velocities.ensures.value in
    let r = err_from_is_err_and c.from_residual-in_err-turn_joints.result c.from_residual-in_err-turn_joints.ensures.1 in
    rw (r.1, r.2)
    (pass_first (first_to m.nv (velocity_fault m s a)) _ _ c.in_ok-move_velocities.ensures.first
    (pass_first (first_to (length m.joints) (λ j. position_fault m s (velocities m s a) (joint m.joints j))) _ _
    (c.in_ok-move_joints.ensures.first ∙ ap (λ w. first_to (length m.joints) (λ j. position_fault m s w (joint m.joints j))) v)
    (c.in_err-turn_joints.ensures.first ∙ ap (λ w. first_to (length m.joints) (λ j. norm_fault m s w (joint m.joints j))) v)))

pub returns-clause-first : goal.returns-clause-first
returns-clause-first c =
    let m = c.args.model.now in
    let s = c.args.state.now in
    let a = number_at c.args.accel.now in
    let v : number_at c.move_velocities.new.v ≡ velocities m s a = below-is (λ x. x.mid) (plain (pos 0)) c.move_velocities.new.v m.nv (velocity m s a) (c.move_velocities.ensures.len ∙ c.requires.room.v) c.in_ok-move_velocities.ensures.value in
    pass_first (first_to m.nv (velocity_fault m s a)) _ _ c.in_ok-move_velocities.ensures.first
    (pass_first (first_to (length m.joints) (λ j. position_fault m s (velocities m s a) (joint m.joints j))) _ _
    (c.in_ok-move_joints.ensures.first ∙ ap (λ w. first_to (length m.joints) (λ j. position_fault m s w (joint m.joints j))) v)
    (c.in_ok-turn_joints.ensures.first ∙ ap (λ w. first_to (length m.joints) (λ j. norm_fault m s w (joint m.joints j))) v))

pub returns-clause-value : goal.returns-clause-value
returns-clause-value c =
    let m = c.args.model.now in
    let s = c.args.state.now in
    let a = number_at c.args.accel.now in
    let v : number_at c.move_velocities.new.v ≡ velocities m s a = below-is (λ x. x.mid) (plain (pos 0)) c.move_velocities.new.v m.nv (velocity m s a) (c.move_velocities.ensures.len ∙ c.requires.room.v) c.in_ok-move_velocities.ensures.value in
    let moved = subst (λ (w : ℕ → ℤ). AreAllMoved m s w (length m.joints) c.turn_joints.new.q) v c.turn_joints.ensures.moved in
    let turned = subst (λ (w : ℕ → ℤ). AreAllTurned m s w (length m.joints) c.turn_joints.new.q) v c.in_ok-turn_joints.ensures.turned in
    let room = c.turn_joints.ensures.len ∙ c.move_joints.ensures.len ∙ c.requires.room.q in
    ap₂ (λ q w. record { q = q; v = w }) (are-positions m s (velocities m s a) c.turn_joints.new.q moved turned room)
    (numbers-are m.nv (velocity m s a) c.move_velocities.new.v (c.move_velocities.ensures.len ∙ c.requires.room.v) c.in_ok-move_velocities.ensures.value)

pub returns-clause-fits : goal.returns-clause-fits
returns-clause-fits c =
    let m = c.args.model.now in
    record {
      positions = fit-positions m c.args.state.now (number_at c.move_velocities.new.v) c.turn_joints.new.q c.turn_joints.ensures.moved c.in_ok-turn_joints.ensures.turned (c.turn_joints.ensures.len ∙ c.move_joints.ensures.len ∙ c.requires.room.q);
      velocities = record { many = c.move_velocities.ensures.len ∙ c.requires.room.v; each = c.in_ok-move_velocities.ensures.within };
    }
