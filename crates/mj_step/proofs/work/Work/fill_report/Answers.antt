use Rattle.std.proofs.Common.{rules, SFits, ◌≡◌, ℕ, ℤ, pos, length, slice_index_or, sym, ap, ◌∙◌}
use Rattle.std.specs.Int.{w64, w128}
use Rattle.std.proofs.lemmas.Int.{to_z-of_z}
use Rattle.fx_whole.specs.Entries.{below}
use Rattle.mj_dual.proofs.EntryLaws.{same_below}
use Rattle.mj_factor.specs.Residuals.{greatest_to}
use Rattle.mj_factor.proofs.ReadLaws.{greatest-reads}
use Rattle.mj_optimum.specs.Box.{lo, hi}
use Rattle.mj_types.specs.Masses.{mass_radius_at, no_near}
use Rattle.mj_types.specs.Parts.{number_at}
use Rattle.mj_types.specs.Problems.{forces}
use Rattle.mj_types.specs.StepValues.{DualValues, values_of, active_count}
use Rattle.mj_step.specs.Steps.{step_state, step_values, acceleration, load, mass_of, mass_radius_of, bias_radius_of, residual_of, largest_mass_radius, largest_bias_radius, rows_at, problem_at, force_at}
use Rattle.mj_step.proofs.Told.{copied, residual_told, radius_told, force-whole, values_told}
use Rattle.mj_step.proofs.work.Work.fill_report.Goals as goal

pub returns-clause-report : goal.returns-clause-report
unfolding residual_of largest_mass_radius largest_bias_radius force_at
returns-clause-report c =
    let m = c.args.model.now in
    let s = c.args.state.now in
    let u = c.args.controls.now in
    let w = c.args.self.now in
    let n = m.nv in
    let r = c.copy_rows.new.report in
    let told = c.copy_rows.ensures in
    let p = problem_at m s u in
    let values = step_values m s u in
    let fits : SFits w128 c.residual-self.result = search rules in
    let fits_mass : SFits w64 c.largest_mass_radius-self.result = search rules in
    let fits_bias : SFits w64 c.largest_bias_radius-self.result = search rules in
    let from = c.as_slice.ensures.value in
    let accel : number_at r.accel ≡ acceleration m s u =
    ap (λ xs. number_at xs) told.accel
    ∙ copied c.copy_into.new.to c.as_slice.result.now (c.copy_into.ensures.len ∙ c.requires.made.report.accel ∙ sym c.requires.made.accel ∙ ap (λ xs. length xs) (sym from)) c.copy_into.ensures.same
    ∙ ap (λ xs. number_at xs) from
    ∙ c.requires.accel.value in
    let residual : r.residual ≡ pos (residual_of m s u) =
    told.residual ∙ to_z-of_z w128 c.residual-self.result fits ∙ c.residual-self.ensures
    ∙ ap pos (residual_told n w.mass.m c.as_slice-2.result.now c.as_slice-3.result.now (mass_of m s) (acceleration m s u) (load m s u)
    (ap (λ xs. length xs) c.as_slice-2.ensures.value ∙ c.requires.made.accel) c.requires.mass.values
    (ap (λ xs. number_at xs) c.as_slice-2.ensures.value ∙ c.requires.accel.value) (ap (λ xs. number_at xs) c.as_slice-3.ensures ∙ c.requires.load.value)) in
    let mass : r.mass_radius ≡ pos (largest_mass_radius m s) =
    told.mass ∙ to_z-of_z w64 c.largest_mass_radius-self.result fits_mass ∙ c.largest_mass_radius-self.ensures
    ∙ ap pos (greatest-reads n (λ i. greatest_to n (mass_radius_at n w.mass.m i)) (λ i. greatest_to n (mass_radius_of m s i))
    (λ i h. greatest-reads n (mass_radius_at n w.mass.m i) (mass_radius_of m s i) (λ j k. c.requires.mass.radii i j h k))) in
    let bias : r.bias_radius ≡ pos (largest_bias_radius m s) =
    told.bias ∙ to_z-of_z w64 c.largest_bias_radius-self.result fits_bias ∙ c.largest_bias_radius-self.ensures
    ∙ ap pos (radius_told n c.as_slice-4.result.now (bias_radius_of m s) (ap (λ xs. length xs) c.as_slice-4.ensures ∙ c.requires.made.bias.c)
    (λ i h. ap (λ xs. (slice_index_or xs i no_near).rad) c.as_slice-4.ensures ∙ c.requires.bias.radii i h no_near)) in
    let rows : r.rows.list ≡ rows_at m s u = ap (λ x. x.list) told.rows ∙ c.requires.rows.list in
    let many : active_count r.rows.list ≡ p.m =
    ap (λ x. active_count x.list) told.rows ∙ sym c.requires.rows.count ∙ ap (λ (x : DualValues). x.problem.m) c.requires.rows.dual_ in
    let forces_told = c.requires.forces in
    let force : below (pos 0) (active_count r.rows.list) (forces r.forces) ≡ force_at m s u =
    ap (λ (k : ℕ). below (pos 0) k (forces r.forces)) many ∙ ap (λ (f : ℕ → ℤ). below (pos 0) p.m f) (ap (λ x. forces x) told.forces ∙ forces_told.force)
    ∙ force-whole p m.tolerance.mid m.iterations in
    let low : below (pos 0) (active_count r.rows.list) (number_at r.cert.lo) ≡ values.lo =
    ap (λ x. below (pos 0) (active_count r.rows.list) (number_at x.lo)) told.cert
    ∙ same_below (pos 0) (active_count r.rows.list) p.m (number_at w.report.cert.lo) (lo p (force_at m s u)) many forces_told.low in
    let high : below (pos 0) (active_count r.rows.list) (number_at r.cert.hi) ≡ values.hi =
    ap (λ x. below (pos 0) (active_count r.rows.list) (number_at x.hi)) told.cert
    ∙ same_below (pos 0) (active_count r.rows.list) p.m (number_at w.report.cert.hi) (hi p (force_at m s u)) many forces_told.high in
    ap (λ x. values_of x r) c.requires.next
    ∙ values_told (step_state m s u) r (acceleration m s u) (pos (residual_of m s u)) (pos (largest_mass_radius m s)) (pos (largest_bias_radius m s))
    (rows_at m s u) values.stop (force_at m s u) values.cost values.bound values.lo values.hi
    accel residual mass bias force low high rows (told.stop ∙ forces_told.stop) (ap (λ x. x.cost2) told.cert ∙ forces_told.cost) (ap (λ x. x.bound2) told.cert ∙ forces_told.bound)
