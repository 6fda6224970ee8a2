use Rattle.std.proofs.Common.{◌≡◌, ◌+◌, ◌++◌, List, length, refl, sym, subst, ap, ◌∙◌, arith}
use Rattle.fx_whole.proofs.JoinedLaws.{joined-none}
use Rattle.mj_io.proofs.Sent.{sent-then, sent-nothing, sent-past}
use Rattle.mj_passive.specs.Forces.{AreControls}
use Rattle.mj_types.specs.Control.{Control}
use Rattle.mj_step.specs.Steps.{step_state}
use Rattle.mj_run.specs.Controls.{controls_at, tape_of}
use Rattle.mj_run.specs.Course.{blocks_text, done_of}
use Rattle.mj_run.specs.Run.{state_at, course}
use Rattle.mj_run.specs.Told.{told_fault, told_text}
use Rattle.mj_run.proofs.ControlLaws.{controls-lawful}
use Rattle.mj_run.proofs.CourseLaws.{whole, done-early, end-early, blocks-prefix, done-least}
use Rattle.mj_run.proofs.Steps.{state-more, told-passed, told-refused, told-more}
use Rattle.mj_run.proofs.run.send_steps.Goals as goal

pub loop-done-init : goal.loop-done-init
unfolding state_at
loop-done-init g c =
    let m = c.args.model.now in
    let driven = controls_at (length m.motors) (tape_of c.args.controls.now) in
    record {
      made = c.requires.made;
      fits = c.requires.fits;
      room = c.requires.inverse;
      state = c.requires.start;
      passed = refl;
      sent = rw (joined-none (course c.args.wants m driven).block) (sent-nothing g.S.Sink.holds g.S.Sink.faults c.args.sink.now c.args.page.now);
      goes_on = λ on. on;
    }

pub send_step-requires-clause-controls : goal.send_step-requires-clause-controls
send_step-requires-clause-controls g c =
    let m = c.args.model.now in
    let controls = c.args.controls.now in
    let row = c.at-row.ensures.value ∙ ap (λ w. controls_at w (tape_of controls) c.loop-done.done) c.len.ensures in
    let P = λ (u : List Control). AreControls m u in
    subst P (sym row) (controls-lawful m controls c.args.steps c.loop-done.done c.requires.serves c.loop-done-test.true)

pub loop-done-preserved : goal.loop-done-preserved
loop-done-preserved g c =
    let m = c.args.model.now in
    let controls = c.args.controls.now in
    let driven = controls_at (length m.motors) (tape_of controls) in
    let k = c.loop-done.done in
    let s = c.loop-done.runner.state in
    let so_far = c.loop-done.invariant in
    let row = c.at-row.ensures.value ∙ ap (λ w. controls_at w (tape_of controls) k) c.len.ensures in
    record {
      made = c.in-Ok.ensures.made;
      fits = c.in-Ok.ensures.fits;
      room = c.in-Ok.ensures.room;
      state = state-more m driven k s c.send_step.new.runner.state so_far.state (c.in-Ok.ensures.state ∙ ap (step_state m s) row);
      passed = told-passed c.args.wants m driven k s so_far.state so_far.passed (ap (told_fault c.args.wants m s) (sym row) ∙ sym c.in-Ok.ensures.first);
      sent = sent-then so_far.sent c.in-Ok.ensures.sent
          (told-more c.args.wants m driven k s so_far.state ∙ ap (λ u. blocks_text (course c.args.wants m driven) k ++ told_text c.args.wants m k s u) (sym row));
      goes_on = λ on. cc;
    }

-- a step was refused
pub returns-in-Err-clause-sent : goal.returns-in-Err-clause-sent
returns-in-Err-clause-sent g c =
    let m = c.args.model.now in
    let controls = c.args.controls.now in
    let driven = controls_at (length m.motors) (tape_of controls) in
    let k = c.loop-done.done in
    let s = c.loop-done.runner.state in
    let so_far = c.loop-done.invariant in
    let row = c.at-row.ensures.value ∙ ap (λ w. controls_at w (tape_of controls) k) c.len.ensures in
    let refused = told-refused c.args.wants m driven k s c.in-Err.out so_far.state (ap (told_fault c.args.wants m s) (sym row) ∙ sym c.in-Err.ensures.first) in
    rw (c.in-Err.ensures.sink, c.in-Err.ensures.page, done-early (course c.args.wants m driven).refusal k c.args.steps c.in-Err.out c.loop-done-test.true so_far.passed refused) so_far.sent

pub returns-in-Err-clause-end : goal.returns-in-Err-clause-end
returns-in-Err-clause-end g c =
    let m = c.args.model.now in
    let controls = c.args.controls.now in
    let driven = controls_at (length m.motors) (tape_of controls) in
    let k = c.loop-done.done in
    let s = c.loop-done.runner.state in
    let so_far = c.loop-done.invariant in
    let row = c.at-row.ensures.value ∙ ap (λ w. controls_at w (tape_of controls) k) c.len.ensures in
    let refused = told-refused c.args.wants m driven k s c.in-Err.out so_far.state (ap (told_fault c.args.wants m s) (sym row) ∙ sym c.in-Err.ensures.first) in
    c.early_end.ensures ∙ sym (end-early (course c.args.wants m driven).refusal k c.args.steps c.in-Err.out c.loop-done-test.true so_far.passed refused)

pub returns-in-Err-clause-goes_on : goal.returns-in-Err-clause-goes_on
returns-in-Err-clause-goes_on g c = λ on. ap (λ p. p.going) c.in-Err.ensures.page ∙ c.loop-done.invariant.goes_on on

-- the writing stopped
pub returns-then-not-is_going-clause-sent : goal.returns-then-not-is_going-clause-sent
returns-then-not-is_going-clause-sent g c =
    let m = c.args.model.now in
    let controls = c.args.controls.now in
    let driven = controls_at (length m.motors) (tape_of controls) in
    let k = c.loop-done.done in
    let s = c.loop-done.runner.state in
    let so_far = c.loop-done.invariant in
    let row = c.at-row.ensures.value ∙ ap (λ w. controls_at w (tape_of controls) k) c.len.ensures in
    let more = told-more c.args.wants m driven k s so_far.state ∙ ap (λ u. blocks_text (course c.args.wants m driven) k ++ told_text c.args.wants m k s u) (sym row) in
    let passed = told-passed c.args.wants m driven k s so_far.state so_far.passed (ap (told_fault c.args.wants m s) (sym row) ∙ sym c.in-Ok.ensures.first) in
    let least = done-least (course c.args.wants m driven).refusal (k + 1) c.args.steps (omega arith) passed in
    let rest = blocks-prefix (course c.args.wants m driven) (k + 1) (done_of (course c.args.wants m driven) c.args.steps) least in
    sent-past rest.0 (sent-then so_far.sent c.in-Ok.ensures.sent more) rest.1 cc

pub returns : goal.returns
returns g c =
    let m = c.args.model.now in
    let driven = controls_at (length m.motors) (tape_of c.args.controls.now) in
    let so_far = c.loop-done.invariant in
    let all : c.loop-done.done ≡ c.args.steps = omega arith in
    let done = whole (course c.args.wants m driven).refusal c.loop-done.done c.args.steps all so_far.passed in
    record { sent = rw done.0 so_far.sent; end = sym done.1; goes_on = so_far.goes_on }
