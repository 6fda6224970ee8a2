use Rattle.std.proofs.Common.{◌≡◌, ◌^◌, ℤ, pos, sym, ap, ◌∙◌}
use Rattle.mj_types.specs.Forests.{above_in}
use Rattle.mj_types.specs.Masses.{mass_at}
use Rattle.mj_types.specs.Parts.{number_at}
use Rattle.mj_factor.specs.Factors.{lower, pivot, factor_fault}
use Rattle.mj_factor.specs.Stored.{entry, shifted_mass}
use Rattle.mj_ball.specs.Shifts.{with_diagonal, errors_fault, largest_row, shifted, least_part, unless_fault, at_least_one}
use Rattle.mj_ball.proofs.SameLaws.{low_by, low_refused}
use Rattle.mj_ball.proofs.balls.low_at.Goals as goal

pub returns-in-Ok-largest_row-clause-value : goal.returns-in-Ok-largest_row-clause-value
returns-in-Ok-largest_row-clause-value c =
    let m = c.args.model.now in
    let x = c.args.mass.now in
    let n = m.nv in
    let k = c.args.k in
    let f = c.factor_less.new.out in
    let s : c.power_of-shift.result.mid ≡ pos (2 ^ k) = c.power_of-shift.ensures.value in
    let l = entry (above_in m) f.l in
    let is = low_by n (mass_at n x.m) k (number_at f.d) l
    (c.in-Ok.ensures.first ∙ ap (λ (y : ℤ). factor_fault n (shifted_mass y m x)) s)
    (λ r p. c.in-Ok.ensures.pivots r p ∙ ap (λ (y : ℤ). pivot n (shifted_mass y m x) r) s)
    (λ r i p q. c.in-Ok.ensures.lowers r i p q ∙ ap (λ (y : ℤ). lower n (shifted_mass y m x) r i) s) in
    let whole = c.least_part.ensures.value ∙ ap (least_part k) (c.in-Ok-largest_row.ensures.value ∙ ap (λ (y : ℤ). largest_row n (shifted_mass y m x) (number_at f.d) (with_diagonal l)) s) in
    c.at_least_one.ensures.value ∙ ap at_least_one whole
    ∙ ap (λ e. unless_fault e (at_least_one (least_part k (largest_row n (shifted k (mass_at n x.m)) (number_at f.d) (with_diagonal l)))))
    (c.in-Ok-largest_row.ensures.first ∙ ap (λ (y : ℤ). errors_fault n (shifted_mass y m x) (number_at f.d) (with_diagonal l)) s)
    ∙ sym is

pub returns-in-Err-largest_row-clause-value : goal.returns-in-Err-largest_row-clause-value
returns-in-Err-largest_row-clause-value c =
    let m = c.args.model.now in
    let x = c.args.mass.now in
    let n = m.nv in
    let k = c.args.k in
    let f = c.factor_less.new.out in
    let s : c.power_of-shift.result.mid ≡ pos (2 ^ k) = c.power_of-shift.ensures.value in
    let l = entry (above_in m) f.l in
    let is = low_by n (mass_at n x.m) k (number_at f.d) l
    (c.in-Ok.ensures.first ∙ ap (λ (y : ℤ). factor_fault n (shifted_mass y m x)) s)
    (λ r p. c.in-Ok.ensures.pivots r p ∙ ap (λ (y : ℤ). pivot n (shifted_mass y m x) r) s)
    (λ r i p q. c.in-Ok.ensures.lowers r i p q ∙ ap (λ (y : ℤ). lower n (shifted_mass y m x) r i) s) in
    ap (λ e. unless_fault e (at_least_one (least_part k (largest_row n (shifted k (mass_at n x.m)) (number_at f.d) (with_diagonal l)))))
    (c.in-Err-largest_row.ensures.first ∙ ap (λ (y : ℤ). errors_fault n (shifted_mass y m x) (number_at f.d) (with_diagonal l)) s)
    ∙ sym is

pub returns-in-Err-clause-value : goal.returns-in-Err-clause-value
returns-in-Err-clause-value c =
    let m = c.args.model.now in
    let x = c.args.mass.now in
    low_refused m.nv (mass_at m.nv x.m) c.args.k _ (c.in-Err.ensures.first ∙ ap (λ (y : ℤ). factor_fault m.nv (shifted_mass y m x)) c.power_of-shift.ensures.value)
