use Rattle.std.proofs.Common.{◌≡◌, ℕ, ℤ, pos, ◌<ℤ◌, ◌≤ℤ◌, to_z, of_z, length, refl, sym, ap, ◌∙◌, subst, arith, rules}
use mir.Syntax.{w128}
use Rattle.std.proofs.lemmas.Int.{ints}
use Rattle.std.proofs.lemmas.Result.{err_from_is_err_and}
use Rattle.std.proofs.Math.Path.{fun_ext}
use Rattle.fx_whole.specs.First.{first_to}
use Rattle.fx_whole.proofs.FirstLaws.{stop_first, pass_first}
use Rattle.mj_types.specs.Duals.{bound_at, wide_at}
use Rattle.mj_types.specs.Masses.{mass_at}
use Rattle.mj_types.specs.Parts.{number_at}
use Rattle.mj_factor.specs.Residuals.{greatest_to, residual_at}
use Rattle.mj_inverse.specs.Carriers.{given_of, jacobian_of, motion_of, row_of}
use Rattle.mj_inverse.specs.Rows.{IsRowOptimum, pull}
use Rattle.mj_inverse.specs.Separated.{force_of, load_fault}
use Rattle.mj_inverse.proofs.ReadLaws.{load_same}
use Rattle.mj_inverse.proofs.RowLaws.{row_is_best}
use Rattle.mj_inverse.proofs.inverse.separated.Goals as goal

pub returns-in_err-gap-clause-first : goal.returns-in_err-gap-clause-first
returns-in_err-gap-clause-first c =
    let r = err_from_is_err_and c.from_residual.result c.from_residual.ensures.1 in
    rw (r.1, r.2) (stop_first _ _ _ c.in_err-gap.ensures.first)

pub returns-in_err-far-clause-first : goal.returns-in_err-far-clause-first
returns-in_err-far-clause-first c =
    let a = c.args in
    let n = length a.accel.now in
    let m = a.dual.now.m in
    let j = jacobian_of n a.rows.now a.dual.now in
    let free : ℕ → ℤ = number_at a.free_load.now in
    let y = force_of (given_of a.dual.now a.rows.now a.step.now a.smooth.now a.accel.now a.mass.now a.free_load.now) in
    let loads = fun_ext (λ (i : ℕ). load_same m j j free free _ y i (λ k h. refl) refl c.in_ok-gap.ensures.values) in
    let r = err_from_is_err_and c.from_residual-in_err-far.result c.from_residual-in_err-far.ensures.1 in
    rw (r.1, r.2)
    (pass_first _ _ _ c.in_ok-gap.ensures.first (c.in_err-far.ensures.first ∙ ap (λ (s : ℕ → ℤ). first_to n (load_fault s)) loads))

pub returns-clause-first : goal.returns-clause-first
returns-clause-first c =
    let a = c.args in
    let n = length a.accel.now in
    let m = a.dual.now.m in
    let j = jacobian_of n a.rows.now a.dual.now in
    let free : ℕ → ℤ = number_at a.free_load.now in
    let y = force_of (given_of a.dual.now a.rows.now a.step.now a.smooth.now a.accel.now a.mass.now a.free_load.now) in
    let loads = fun_ext (λ (i : ℕ). load_same m j j free free _ y i (λ k h. refl) refl c.in_ok-gap.ensures.values) in
    pass_first _ _ _ c.in_ok-gap.ensures.first (c.in_ok-far.ensures.first ∙ ap (λ (s : ℕ → ℤ). first_to n (load_fault s)) loads)

pub returns-clause-best : goal.returns-clause-best
returns-clause-best c = λ k h.
    let d = c.args.dual.now in
    let low = bound_at d.low k in
    let high = bound_at d.high k in
    let r = wide_at d.r k in
    let w = pull (motion_of c.args.smooth.now c.args.accel.now) (row_of (length c.args.accel.now) c.args.rows.now d k) in
    let regular : pos 0 <ℤ r = positive r (d.rows.regular k h) in
    subst (λ (x : ℤ). IsRowOptimum low high r w x) (sym (c.in_ok-gap.ensures.values k h))
    (λ n e he from_low to_high. row_is_best low high r w n e regular (c.requires.can.zero.above k h) (c.requires.can.zero.below k h) he from_low to_high)
  where
    positive : (r : ℤ) → pos 1 ≤ℤ r → pos 0 <ℤ r
    positive r h = omega (arith, ints)

pub returns-clause-discrepancy : goal.returns-clause-discrepancy
returns-clause-discrepancy c =
    let a = c.args in
    let n = length a.accel.now in
    let m = a.dual.now.m in
    let j = jacobian_of n a.rows.now a.dual.now in
    let free : ℕ → ℤ = number_at a.free_load.now in
    let y = force_of (given_of a.dual.now a.rows.now a.step.now a.smooth.now a.accel.now a.mass.now a.free_load.now) in
    let loads = fun_ext (λ (i : ℕ). load_same m j j free free _ y i (λ k h. refl) refl c.in_ok-gap.ensures.values) in
    let v : to_z w128 (of_z w128 c.cast_signed-out-2.result) ≡ pos c.in_ok-far.far = search rules in
    v ∙ ap pos (c.in_ok-far.ensures.value ∙ ap (λ (s : ℕ → ℤ). greatest_to n (residual_at n (mass_at n a.mass.now.m) (number_at a.accel.now) s)) loads)
