use Rattle.std.proofs.Common.{ℕ, ℤ, ap, ap₂, ◌∙◌}
use Rattle.mj_ball.specs.Shifts.{ball_of}
use Rattle.mj_ball.proofs.ShiftLaws.{ball_if_some}
use Rattle.mj_types.specs.Masses.{mass_at}
use Rattle.mj_types.specs.Parts.{number_at}
use Rattle.mj_step.proofs.BallLaws.{ball-is}
use Rattle.mj_step.proofs.work.Work.ball.Goals as goal

pub ball-requires-clause-mass : goal.ball-requires-clause-mass
ball-requires-clause-mass c = c.requires.can.lawful

pub ball-requires-clause-symmetric : goal.ball-requires-clause-symmetric
ball-requires-clause-symmetric c = c.requires.can.symmetric

pub ball-requires-clause-numbers : goal.ball-requires-clause-numbers
ball-requires-clause-numbers c = λ j h. rw c.as_slice.ensures.value (c.requires.can.small j h)

pub returns-clause-value : goal.returns-clause-value
returns-clause-value c =
    let m = c.args.model.now in
    c.ball.ensures.value
    ∙ ap₂ (λ (a b : ℕ → ℤ). ball_of m.nv (mass_at m.nv c.args.self.now.mass.m) a b) (ap (λ xs. number_at xs) c.as_slice.ensures.value) (ap (λ xs. number_at xs) c.as_slice-2.ensures)

pub returns-clause-encloses : goal.returns-clause-encloses
returns-clause-encloses c =
    let m = c.args.model.now in
    let w = c.args.self.now in
    ball_if_some m.nv (mass_at m.nv w.mass.m) c.requires.can.symmetric (number_at w.accel.items) (number_at w.load) c.ball.result
    (c.ball.ensures.value
    ∙ ap₂ (λ (a b : ℕ → ℤ). ball_of m.nv (mass_at m.nv w.mass.m) a b) (ap (λ xs. number_at xs) c.as_slice.ensures.value) (ap (λ xs. number_at xs) c.as_slice-2.ensures))

pub returns-clause-of_step : goal.returns-clause-of_step
returns-clause-of_step c = λ s u mass accel load.
    c.ball.ensures.value
    ∙ ball-is c.args.model.now s u c.args.self.now.mass mass c.as_slice.result.now c.as_slice-2.result.now
    (ap (λ xs. number_at xs) c.as_slice.ensures.value ∙ accel.value)
    (ap (λ xs. number_at xs) c.as_slice-2.ensures ∙ load.value)
