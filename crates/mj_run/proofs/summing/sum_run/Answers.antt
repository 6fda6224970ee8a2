use Rattle.std.proofs.Common.{◌≡◌, List, length, refl, sym, subst, ap, ◌∙◌, arith}
use Rattle.mj_passive.specs.Forces.{AreControls}
use Rattle.mj_types.specs.Control.{Control}
use Rattle.mj_types.specs.declared.range.End.TheVariants as finish
use Rattle.mj_step.specs.Steps.{step_state, step_values, step_fault}
use Rattle.mj_run.specs.Controls.{controls_at, tape_of}
use Rattle.mj_run.specs.Run.{state_at, told_at, refusal_at}
use Rattle.mj_run.specs.Summing.{summary_to}
use Rattle.mj_run.proofs.ControlLaws.{controls-lawful}
use Rattle.mj_run.proofs.CourseLaws.{whole, done-early, end-early}
use Rattle.mj_run.proofs.Steps.{state-more, passed-more, refused-here}
use Rattle.mj_run.proofs.summing.sum_run.Goals as goal

pub loop-done-init : goal.loop-done-init
unfolding state_at
loop-done-init c =
    let m = c.args.model.now in
    let driven = controls_at (length m.motors) (tape_of c.args.controls.now) in
    record {
      made = c.requires.made;
      fits = c.requires.fits;
      state = c.requires.start;
      passed = refl;
      spare = c.no_steps-sum.ensures.spare;
      sums = c.no_steps-sum.ensures.sums (told_at m driven);
    }

pub sum_step-requires-clause-controls : goal.sum_step-requires-clause-controls
sum_step-requires-clause-controls c =
    let m = c.args.model.now in
    let controls = c.args.controls.now in
    let row = c.at-row.ensures.value ∙ ap (λ w. controls_at w (tape_of controls) c.loop-done.done) c.len.ensures in
    let P = λ (u : List Control). AreControls m u in
    subst P (sym row) (controls-lawful m controls c.args.steps c.loop-done.done c.requires.serves c.loop-done-test.true)

pub loop-done-preserved : goal.loop-done-preserved
loop-done-preserved c =
    let m = c.args.model.now in
    let controls = c.args.controls.now in
    let driven = controls_at (length m.motors) (tape_of controls) in
    let k = c.loop-done.done in
    let s = c.loop-done.runner.state in
    let so_far = c.loop-done.invariant in
    let row = c.at-row.ensures.value ∙ ap (λ w. controls_at w (tape_of controls) k) c.len.ensures in
    let told : step_values m s c.at-row.result.now ≡ told_at m driven k =
    ap (step_values m s) row ∙ ap (λ x. step_values m x (driven k)) so_far.state in
    let done : c.loop-done.sum.done ≡ k = ap (λ x. x.done) so_far.sums in
    let steps : c.loop-done.sum.steps ≡ c.args.steps = ap (λ x. x.steps) so_far.sums in
    let end : c.loop-done.sum.end ≡ finish.Done = ap (λ x. x.end) so_far.sums in
    let same : summary_to (told_at m driven) k c.args.steps finish.Done ≡ summary_to (told_at m driven) c.loop-done.sum.done c.loop-done.sum.steps c.loop-done.sum.end =
    rw (done, steps, end) refl in
    record {
      made = c.in-Ok.ensures.made;
      fits = c.in-Ok.ensures.fits;
      state = state-more m driven k s c.sum_step.new.runner.state so_far.state (c.in-Ok.ensures.state ∙ ap (step_state m s) row);
      passed = passed-more m driven k s so_far.state so_far.passed (ap (step_fault m s) (sym row) ∙ sym c.in-Ok.ensures.first);
      spare = c.in-Ok.ensures.spare;
      sums =
          c.in-Ok.ensures.more (told_at m driven) (told ∙ ap (told_at m driven) (sym done)) (so_far.sums ∙ same)
          ∙ rw (done, steps, end) refl;
    }

-- a step was refused
pub returns-in-Err : goal.returns-in-Err
returns-in-Err c =
    let m = c.args.model.now in
    let controls = c.args.controls.now in
    let driven = controls_at (length m.motors) (tape_of controls) in
    let k = c.loop-done.done in
    let s = c.loop-done.runner.state in
    let so_far = c.loop-done.invariant in
    let row = c.at-row.ensures.value ∙ ap (λ w. controls_at w (tape_of controls) k) c.len.ensures in
    let refused = refused-here m driven k s c.in-Err.out so_far.state (ap (step_fault m s) (sym row) ∙ sym c.in-Err.ensures.first) in
    let early = done-early (refusal_at m driven) k c.args.steps c.in-Err.out c.loop-done-test.true so_far.passed refused in
    let last = end-early (refusal_at m driven) k c.args.steps c.in-Err.out c.loop-done-test.true so_far.passed refused in
    let done : c.loop-done.sum.done ≡ k = ap (λ x. x.done) so_far.sums in
    let steps : c.loop-done.sum.steps ≡ c.args.steps = ap (λ x. x.steps) so_far.sums in
    let end : c.loop-done.sum.end ≡ finish.Done = ap (λ x. x.end) so_far.sums in
    let same : summary_to (told_at m driven) k c.args.steps finish.Done ≡ summary_to (told_at m driven) c.loop-done.sum.done c.loop-done.sum.steps c.loop-done.sum.end =
    rw (done, steps, end) refl in
    record {
      made = c.in-Err.ensures.made;
      fits = c.in-Err.ensures.fits;
      summary =
          c.ended.ensures (told_at m driven) (so_far.sums ∙ same)
          ∙ rw (done, steps, c.early_end.ensures, early, last) refl;
      state = c.in-Err.ensures.kept ∙ so_far.state ∙ ap (state_at m driven) (sym early);
    }

pub returns : goal.returns
returns c =
    let m = c.args.model.now in
    let driven = controls_at (length m.motors) (tape_of c.args.controls.now) in
    let so_far = c.loop-done.invariant in
    let all : c.loop-done.done ≡ c.args.steps = omega arith in
    let done = whole (refusal_at m driven) c.loop-done.done c.args.steps all so_far.passed in
    record {
      made = so_far.made;
      fits = so_far.fits;
      summary = so_far.sums ∙ rw (done.0, done.1) refl;
      state = so_far.state ∙ ap (state_at m driven) (sym done.0);
    }
