use Rattle.std.proofs.Common.{◌≡◌, ◌^◌, ℤ, pos, ◌-ℤ◌, ◌*ℤ◌, refl, ap, ap₂, ◌∙◌}
use Rattle.std.proofs.lemmas.Result.{err_from_is_err_and}
use Rattle.fx_whole.specs.Nearest.{nearest}
use Rattle.fx_whole.proofs.FirstLaws.{stop_first, pass_first}
use Rattle.mj_dual.specs.Products.{along}
use Rattle.mj_optimum.specs.Sweep.{at_least, at_most}
use Rattle.mj_types.specs.declared.range.Quantity.TheVariants as kind
use Rattle.mj_types.specs.Duals.{bound}
use Rattle.mj_types.specs.Parts.{number_at}
use Rattle.mj_types.specs.Ranges.{limited}
use Rattle.mj_inverse.specs.Carriers.{motion_of, row_problem}
use Rattle.mj_inverse.specs.Rows.{Motion, RowProblem, rate, pull}
use Rattle.mj_inverse.proofs.rows.separate.Goals as goal

is_pull : (y : Motion) (x : RowProblem) → (along y.dofs x.jacobian y.smooth -ℤ x.b) -ℤ rate y x ≡ pull y x
unfolding pull
is_pull y x = refl

-- `J x` over as many dofs as there are accelerations
pub returns-in_err-rate-clause-first : goal.returns-in_err-rate-clause-first
returns-in_err-rate-clause-first c =
    let a = c.args in
    let r = err_from_is_err_and c.from_residual.result c.from_residual.ensures.1 in
    let rate_is = c.along.ensures.value ∙ ap (λ n. along n (number_at a.j.now) (number_at a.accel.now)) c.requires.width in
    rw (r.1, r.2) (stop_first _ _ _ (c.in_err-rate.ensures.first ∙ ap (limited kind.InverseRate a.row.now.place (2 ^ 56)) rate_is))

pub returns-in_err-x-clause-first : goal.returns-in_err-x-clause-first
returns-in_err-x-clause-first c =
    let a = c.args in
    let row = a.row.now in
    let y = motion_of a.smooth.now a.accel.now in
    let x = row_problem row (number_at a.j.now) in
    let rate_is = c.along.ensures.value ∙ ap (λ n. along n (number_at a.j.now) (number_at a.accel.now)) c.requires.width in
    let smooth_is = c.along-2.ensures.value ∙ ap (λ n. along n (number_at a.j.now) (number_at a.smooth.now)) c.requires.width in
    let w = c.pull-w.ensures.value ∙ ap₂ (λ p q. (p -ℤ row.b.mid) -ℤ q) smooth_is (c.in_ok-rate.ensures.value ∙ rate_is) ∙ is_pull y x in
    let whole = c.at_most-whole.ensures
    ∙ ap (at_most (bound row.high)) (c.at_least.ensures ∙ ap (at_least (bound row.low)) (c.best.ensures ∙ ap (λ (z : ℤ). nearest (z *ℤ pos (2 ^ 36)) row.r.raw) w)) in
    let r = err_from_is_err_and c.from_residual-in_err-x.result c.from_residual-in_err-x.ensures.1 in
    rw (r.1, r.2)
    (pass_first _ _ _ (c.in_ok-rate.ensures.first ∙ ap (limited kind.InverseRate row.place (2 ^ 56)) rate_is)
    (c.in_err-x.ensures.first ∙ ap (limited kind.InverseForce row.place (2 ^ 50)) whole))

pub returns-clause-value : goal.returns-clause-value
returns-clause-value c =
    let a = c.args in
    let row = a.row.now in
    let y = motion_of a.smooth.now a.accel.now in
    let x = row_problem row (number_at a.j.now) in
    let rate_is = c.along.ensures.value ∙ ap (λ n. along n (number_at a.j.now) (number_at a.accel.now)) c.requires.width in
    let smooth_is = c.along-2.ensures.value ∙ ap (λ n. along n (number_at a.j.now) (number_at a.smooth.now)) c.requires.width in
    let w = c.pull-w.ensures.value ∙ ap₂ (λ p q. (p -ℤ row.b.mid) -ℤ q) smooth_is (c.in_ok-rate.ensures.value ∙ rate_is) ∙ is_pull y x in
    c.in_ok-x.ensures.value
    ∙ (c.at_most-whole.ensures
    ∙ ap (at_most (bound row.high)) (c.at_least.ensures ∙ ap (at_least (bound row.low)) (c.best.ensures ∙ ap (λ (z : ℤ). nearest (z *ℤ pos (2 ^ 36)) row.r.raw) w)))

pub returns-clause-first : goal.returns-clause-first
returns-clause-first c =
    let a = c.args in
    let row = a.row.now in
    let y = motion_of a.smooth.now a.accel.now in
    let x = row_problem row (number_at a.j.now) in
    let rate_is = c.along.ensures.value ∙ ap (λ n. along n (number_at a.j.now) (number_at a.accel.now)) c.requires.width in
    let smooth_is = c.along-2.ensures.value ∙ ap (λ n. along n (number_at a.j.now) (number_at a.smooth.now)) c.requires.width in
    let w = c.pull-w.ensures.value ∙ ap₂ (λ p q. (p -ℤ row.b.mid) -ℤ q) smooth_is (c.in_ok-rate.ensures.value ∙ rate_is) ∙ is_pull y x in
    let whole = c.at_most-whole.ensures
    ∙ ap (at_most (bound row.high)) (c.at_least.ensures ∙ ap (at_least (bound row.low)) (c.best.ensures ∙ ap (λ (z : ℤ). nearest (z *ℤ pos (2 ^ 36)) row.r.raw) w)) in
    pass_first _ _ _ (c.in_ok-rate.ensures.first ∙ ap (limited kind.InverseRate row.place (2 ^ 56)) rate_is)
    (c.in_ok-x.ensures.first ∙ ap (limited kind.InverseForce row.place (2 ^ 50)) whole)
