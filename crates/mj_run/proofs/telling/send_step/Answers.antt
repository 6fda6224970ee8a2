use Rattle.std.proofs.Common.{◌++◌, ◌+◌, IsTrue, refl, sym, ap₂, ◌∙◌}
use Rattle.mj_io.proofs.Sent.{sent-then}
use Rattle.mj_types.specs.StepValues.{dual_values}
use Rattle.mj_step.specs.Steps.{ball_at}
use Rattle.mj_run.specs.Stepped.{HasInverse}
use Rattle.mj_run.specs.Told.{ball_lines}
use Rattle.mj_run.proofs.StepLaws.{trace-forces, inverse-room, block-told, lines-told}
use Rattle.mj_run.proofs.telling.send_step.Goals as goal

pub send_done-requires-clause-forces : goal.send_done-requires-clause-forces
send_done-requires-clause-forces g c =
    trace-forces c.args.model.now c.args.runner.now.state c.args.controls.now c.step_once.new.runner c.in_ok-step_once.ensures.stepped

pub send_done-requires-clause-accel : goal.send_done-requires-clause-accel
send_done-requires-clause-accel g c = (let has = c.in_ok-step_once.ensures.stepped in has.made.report.accel ∙ sym has.fits.velocities.many)

pub send_asked_ball-requires : goal.send_asked_ball-requires
send_asked_ball-requires g c = (c.args.runner.now.state, c.args.controls.now, c.in_ok-step_once.ensures.stepped)

pub send_asked_inverse-requires-clause-done : goal.send_asked_inverse-requires-clause-done
send_asked_inverse-requires-clause-done g c = (c.send_asked_ball.ensures.stepped c.args.runner.now.state c.args.controls.now c.in_ok-step_once.ensures.stepped).done

pub send_asked_inverse-requires-clause-room : goal.send_asked_inverse-requires-clause-room
send_asked_inverse-requires-clause-room g c =
    let s = c.args.runner.now.state in
    let u = c.args.controls.now in
    inverse-room c.args.model.now s u c.send_asked_ball.new.runner (c.send_asked_ball.ensures.stepped s u c.in_ok-step_once.ensures.stepped)

pub returns-clause-state : goal.returns-clause-state
returns-clause-state g c =
    let s = c.args.runner.now.state in
    let u = c.args.controls.now in
    (c.send_asked_ball.ensures.stepped s u c.in_ok-step_once.ensures.stepped).state_

pub returns-clause-made : goal.returns-clause-made
returns-clause-made g c = (c.send_asked_ball.ensures.stepped c.args.runner.now.state c.args.controls.now c.in_ok-step_once.ensures.stepped).made

pub returns-clause-fits : goal.returns-clause-fits
returns-clause-fits g c = (c.send_asked_ball.ensures.stepped c.args.runner.now.state c.args.controls.now c.in_ok-step_once.ensures.stepped).fits

pub returns-clause-room : goal.returns-clause-room
returns-clause-room g c = (c.send_asked_ball.ensures.stepped c.args.runner.now.state c.args.controls.now c.in_ok-step_once.ensures.stepped).room

pub returns-clause-sent : goal.returns-clause-sent
returns-clause-sent g c =
    let m = c.args.model.now in
    let w = c.args.wants in
    let s = c.args.runner.now.state in
    let u = c.args.controls.now in
    let first = c.step_once.new.runner in
    let last = c.send_asked_ball.new.runner in
    let has = c.in_ok-step_once.ensures.stepped in
    let still = c.send_asked_ball.ensures.stepped s u has in
    let block = block-told m s u first has w (c.args.done + 1) in
    let inverse : IsTrue w.inverse → HasInverse m s u last.inverse = λ wanted. rw c.send_asked_ball.ensures.inverse (c.in_ok-step_once.ensures.inverse wanted) in
    let lines = lines-told w.inverse m s u (dual_values last.work.dual) last.inverse still.dual_ inverse in
    sent-then (sent-then c.send_done.ensures (c.send_asked_ball.ensures.sent s u has) refl) c.send_asked_inverse.ensures
    (ap₂ (λ x y. (x ++ ball_lines w.ball (ball_at m s u)) ++ y) block lines)
