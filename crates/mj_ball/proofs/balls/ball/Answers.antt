use Rattle.std.proofs.Common.{ℕ, ◌≡◌, None, Some, ap, ◌∙◌, subst}
use Rattle.fx_whole.specs.First.{first_to}
use Rattle.mj_types.specs.Masses.{mass_at}
use Rattle.mj_types.specs.Parts.{number_at}
use Rattle.mj_ball.specs.Shifts.{too_large, missed, total_missed, unless_fault, greatest_ball}
use Rattle.mj_ball.proofs.ShiftLaws.{ball_if_some}
use Rattle.mj_ball.proofs.balls.ball.Goals as goal

pub returns-in-Ok-clause-value : goal.returns-in-Ok-clause-value
returns-in-Ok-clause-value c =
    let n = c.args.model.now.nv in
    let x = c.args.mass.now in
    let a = number_at c.args.a.now in
    let s = number_at c.args.rhs.now in
    let m = mass_at n x.m in
    let none = subst (λ (k : ℕ). None ≡ first_to k (λ (i : ℕ). too_large (missed k (mass_at k x.m) a s i))) c.requires.width c.in-Ok.ensures.first in
    let total = subst (λ (k : ℕ). c.in-Ok.total ≡ total_missed k (mass_at k x.m) a s) c.requires.width c.in-Ok.ensures.value in
    c.greatest_ball.ensures.value ∙ ap (greatest_ball n m) total ∙ ap (λ f. unless_fault f (greatest_ball n m (total_missed n m a s))) none

pub returns-in-Ok-clause-encloses : goal.returns-in-Ok-clause-encloses
returns-in-Ok-clause-encloses c =
    let n = c.args.model.now.nv in
    let x = c.args.mass.now in
    let a = number_at c.args.a.now in
    let s = number_at c.args.rhs.now in
    let m = mass_at n x.m in
    ball_if_some n m c.requires.symmetric a s c.greatest_ball.result (returns-in-Ok-clause-value c)

pub returns-in-Err-clause-value : goal.returns-in-Err-clause-value
returns-in-Err-clause-value c =
    let n = c.args.model.now.nv in
    let x = c.args.mass.now in
    let a = number_at c.args.a.now in
    let s = number_at c.args.rhs.now in
    let m = mass_at n x.m in
    let some = subst (λ (k : ℕ). Some c.in-Err.field-0 ≡ first_to k (λ (i : ℕ). too_large (missed k (mass_at k x.m) a s i))) c.requires.width c.in-Err.ensures.first in
    ap (λ f. unless_fault f (greatest_ball n m (total_missed n m a s))) some
