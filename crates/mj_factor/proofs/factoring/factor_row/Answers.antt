use Rattle.std.proofs.Common.{ℕ, ◌≡◌, ℤ, pos, ap, ap₂, sym, ◌∙◌, arith, subst, ◌≤ℤ◌, ◌^◌}
use Rattle.std.proofs.lemmas.Result.{err_from_is_err_and}
use Rattle.fx_whole.proofs.FirstLaws.{stop_first, pass_first}
use Rattle.mj_types.specs.Duals.{wide_at}
use Rattle.mj_types.specs.Parts.{number_at, plain}
use Rattle.mj_factor.specs.Factors.{pivot_fault}
use Rattle.mj_factor.specs.Stored.{less}
use Rattle.mj_factor.proofs.MakingLaws.{AreSums, pivot_from_sum, faults_from_sums, rows_more}
use Rattle.mj_factor.proofs.factoring.factor_row.Goals as goal

pub pivot-requires-clause-sum : goal.pivot-requires-clause-sum
pivot-requires-clause-sum c = c.add_rows.ensures.small c.height-last.result (omega (arith, c.height-last.ensures.height))

pub returns-in_err-pivot-clause-first : goal.returns-in_err-pivot-clause-first
returns-in_err-pivot-clause-first c =
    let m = c.args.model.now in
    let x = c.args.mass.now in
    let k = c.args.k in
    let s = c.add_rows.new.sums in
    let are : AreSums m c.args.out.now k s = record { each = c.add_rows.ensures.sums } in
    let value = ap₂ (λ y (p : ℕ). less y (wide_at s p)) c.diagonal.ensures c.height-last.ensures.height ∙ pivot_from_sum c.args.shift.now.mid m x c.requires.mass k c.requires.dof c.args.out.now c.requires.room c.requires.rows s are in
    let r = err_from_is_err_and c.from_residual.result c.from_residual.ensures.1 in
    rw (r.1, r.2) (stop_first _ _ _ (c.in_err-pivot.ensures.first ∙ ap (pivot_fault k) value))

pub returns-in_err-write_entries-clause-first : goal.returns-in_err-write_entries-clause-first
returns-in_err-write_entries-clause-first c =
    let m = c.args.model.now in
    let x = c.args.mass.now in
    let k = c.args.k in
    let s = c.add_rows.new.sums in
    let are : AreSums m c.args.out.now k s = record { each = c.add_rows.ensures.sums } in
    let value = ap₂ (λ y (p : ℕ). less y (wide_at s p)) c.diagonal.ensures c.height-last.ensures.height ∙ pivot_from_sum c.args.shift.now.mid m x c.requires.mass k c.requires.dof c.args.out.now c.requires.room c.requires.rows s are in
    let d = c.divisor.ensures ∙ c.in_ok-pivot.ensures.value ∙ value in
    let r = err_from_is_err_and c.from_residual-in_err-write_entries.result c.from_residual-in_err-write_entries.ensures.1 in
    rw (r.1, r.2)
    (pass_first _ _ _ (c.in_ok-pivot.ensures.first ∙ ap (pivot_fault k) value)
    (c.in_err-write_entries.ensures.first ∙ faults_from_sums c.args.shift.now.mid m x c.requires.mass k c.requires.dof c.args.out.now c.requires.room c.requires.rows s are c.divisor.result.d d))

pub returns-clause-first : goal.returns-clause-first
returns-clause-first c =
    let m = c.args.model.now in
    let x = c.args.mass.now in
    let k = c.args.k in
    let s = c.add_rows.new.sums in
    let are : AreSums m c.args.out.now k s = record { each = c.add_rows.ensures.sums } in
    let value = ap₂ (λ y (p : ℕ). less y (wide_at s p)) c.diagonal.ensures c.height-last.ensures.height ∙ pivot_from_sum c.args.shift.now.mid m x c.requires.mass k c.requires.dof c.args.out.now c.requires.room c.requires.rows s are in
    let d = c.divisor.ensures ∙ c.in_ok-pivot.ensures.value ∙ value in
    pass_first _ _ _ (c.in_ok-pivot.ensures.first ∙ ap (pivot_fault k) value)
    (c.in_ok-write_entries.ensures.first ∙ faults_from_sums c.args.shift.now.mid m x c.requires.mass k c.requires.dof c.args.out.now c.requires.room c.requires.rows s are c.divisor.result.d d)

pub returns-clause-rows : goal.returns-clause-rows
returns-clause-rows c =
    let m = c.args.model.now in
    let x = c.args.mass.now in
    let k = c.args.k in
    let f = c.args.out.now in
    let s = c.add_rows.new.sums in
    let are : AreSums m f k s = record { each = c.add_rows.ensures.sums } in
    let value = ap₂ (λ y (p : ℕ). less y (wide_at s p)) c.diagonal.ensures c.height-last.ensures.height ∙ pivot_from_sum c.args.shift.now.mid m x c.requires.mass k c.requires.dof f c.requires.room c.requires.rows s are in
    let same : c.in_ok-pivot.pivot.mid ≡ c.divisor.result.d = sym c.divisor.ensures in
    let d = sym same ∙ c.in_ok-pivot.ensures.value ∙ value in
    let g = c.write_entries.new.out in
    rows_more c.args.shift.now.mid m x c.requires.mass k c.requires.dof f c.requires.room c.requires.rows s are g c.divisor.result.d d
    (ap (λ xs. number_at xs k) c.write_entries.ensures.pivots ∙ ap (λ y. y.mid) (c.put.ensures.same (plain (pos 0))) ∙ same)
    (subst (λ (y : ℤ). pos (2 ^ 10) ≤ℤ y) same c.in_ok-pivot.ensures.least)
    (subst (λ (y : ℤ). y ≤ℤ pos (2 ^ 60)) same c.in_ok-pivot.ensures.most)
    (λ j h. ap (λ xs. number_at xs j) c.write_entries.ensures.pivots ∙ ap (λ y. y.mid) (c.put.ensures.others (plain (pos 0)) j h))
    c.in_ok-write_entries.ensures.works
    c.in_ok-write_entries.ensures.lowers
    c.write_entries.ensures.later_works
    c.write_entries.ensures.later_lowers
    c.in_ok-write_entries.ensures.first
