use Rattle.std.proofs.Common.{◌^◌, ◌-ℤ◌, ◌*ℤ◌, pos, ap, ap₂, ◌∙◌}
use Rattle.std.proofs.lemmas.Result.{err_from_is_err_and}
use Rattle.fx_whole.proofs.FirstLaws.{stop_first, pass_first}
use Rattle.mj_ball.specs.Shifts.{too_large}
use Rattle.mj_ball.proofs.errors.error.Goals as goal

pub returns-in_err-total-clause-first : goal.returns-in_err-total-clause-first
returns-in_err-total-clause-first c =
    let r = err_from_is_err_and c.from_residual.result c.from_residual.ensures.1 in
    rw (r.1, r.2) (stop_first _ _ _ c.in_err-total.ensures.first)

pub returns-in_err-left-clause-first : goal.returns-in_err-left-clause-first
returns-in_err-left-clause-first c =
    let r = err_from_is_err_and c.from_residual-in_err-left.result c.from_residual-in_err-left.ensures.1 in
    let value = c.left_of.ensures ∙ ap₂ (λ x y. x *ℤ pos (2 ^ 64) -ℤ y) c.matrix_entry-whole.ensures.value c.in_ok-total.ensures.value in
    rw (r.1, r.2) (pass_first _ _ _ c.in_ok-total.ensures.first (c.in_err-left.ensures.first ∙ ap too_large value))

pub returns-clause-value : goal.returns-clause-value
returns-clause-value c = c.in_ok-left.ensures.value ∙ c.left_of.ensures ∙ ap₂ (λ x y. x *ℤ pos (2 ^ 64) -ℤ y) c.matrix_entry-whole.ensures.value c.in_ok-total.ensures.value

pub returns-clause-first : goal.returns-clause-first
returns-clause-first c =
    let value = c.left_of.ensures ∙ ap₂ (λ x y. x *ℤ pos (2 ^ 64) -ℤ y) c.matrix_entry-whole.ensures.value c.in_ok-total.ensures.value in
    pass_first _ _ _ c.in_ok-total.ensures.first (c.in_ok-left.ensures.first ∙ ap too_large value)
