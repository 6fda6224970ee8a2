use Rattle.std.proofs.Common.{◌≡◌, ◌+◌, ◌-ℤ◌, ◌∙◌, ℕ, ℤ, pos, Some, None, ap, ap₂, sym, subst, refl, arith}
use Rattle.std.proofs.lemmas.Result.{err_from_is_err_and}
use Rattle.std.specs.Int.{int_wrap}
use mir.Syntax.{w128}
use Rattle.fx_whole.specs.First.{first_to}
use Rattle.fx_whole.proofs.FirstLaws.{stop_first, pass_first}
use Rattle.mj_optimum.specs.Cost.{reach, gradient}
use Rattle.mj_optimum.specs.Limits.{force_limit, reach_limit}
use Rattle.mj_optimum.specs.Sweep.{change, divisor, update, put_at, after_update}
use Rattle.mj_types.specs.Problems.{problem, forces, place}
use Rattle.mj_types.specs.Parts.{plain}
use Rattle.mj_types.specs.Ranges.{limited}
use Rattle.mj_types.specs.declared.range.Quantity.TheVariants as kind
use Rattle.mj_pgs.specs.Answer.{row_fault}
use Rattle.mj_pgs.specs.Holding.{change_at}
use Rattle.mj_pgs.proofs.RowLaws.{change-none, none-reached, same_change, stays, wrap-zero}
use Rattle.mj_pgs.proofs.row.update.Goals as goal

pub returns-in_err-x-clause-first : goal.returns-in_err-x-clause-first
unfolding row_fault
returns-in_err-x-clause-first c =
    let d = c.args.dual.now in
    let x = c.args.out.now in
    let q = err_from_is_err_and c.from_residual.result c.from_residual.ensures.1 in
    rw (q.1, q.2) (stop_first (limited kind.Force (place d c.args.i) force_limit (update (problem d) (forces x) c.args.i)) (first_to d.nv (λ k. limited kind.Reach (k + 1) reach_limit (reach (problem d) (after_update (problem d) (forces x) c.args.i) k))) c.in_err-x.field-0.0 c.in_err-x.ensures.first)

pub returns-then-is_same-clause-first : goal.returns-then-is_same-clause-first
unfolding row_fault
returns-then-is_same-clause-first c =
    let d = c.args.dual.now in
    let x = c.args.out.now in
    let e : update (problem d) (forces x) c.args.i ≡ forces x c.args.i = sym c.in_ok-x.ensures.value ∙ c.if-is_same.ensures.0 refl ∙ sym (ap (λ y. y.mid) (c.at-f.ensures (plain (pos 0)))) in
    pass_first (limited kind.Force (place d c.args.i) force_limit (update (problem d) (forces x) c.args.i)) (first_to d.nv (λ k. limited kind.Reach (k + 1) reach_limit (reach (problem d) (after_update (problem d) (forces x) c.args.i) k))) None c.in_ok-x.ensures.first
    (subst (λ (g : ℕ → ℤ). None ≡ first_to d.nv (λ k. limited kind.Reach (k + 1) reach_limit (reach (problem d) g k))) (sym (stays (problem d) (forces x) c.args.i e)) (sym (none-reached d x c.requires.held)))

pub returns-then-is_same-clause-forces : goal.returns-then-is_same-clause-forces
returns-then-is_same-clause-forces c =
    let d = c.args.dual.now in
    let x = c.args.out.now in
    let e : update (problem d) (forces x) c.args.i ≡ forces x c.args.i = sym c.in_ok-x.ensures.value ∙ c.if-is_same.ensures.0 refl ∙ sym (ap (λ y. y.mid) (c.at-f.ensures (plain (pos 0)))) in
    sym (stays (problem d) (forces x) c.args.i e)

pub returns-then-is_same-clause-change : goal.returns-then-is_same-clause-change
returns-then-is_same-clause-change c =
    let d = c.args.dual.now in
    let x = c.args.out.now in
    let e : update (problem d) (forces x) c.args.i ≡ forces x c.args.i = sym c.in_ok-x.ensures.value ∙ c.if-is_same.ensures.0 refl ∙ sym (ap (λ y. y.mid) (c.at-f.ensures (plain (pos 0)))) in
    sym (ap (int_wrap w128) (change-none (problem d) (forces x) c.args.i e) ∙ wrap-zero)

pub returns-in_err-put-clause-first : goal.returns-in_err-put-clause-first
unfolding row_fault
returns-in_err-put-clause-first c =
    let d = c.args.dual.now in
    let x = c.args.out.now in
    let q = err_from_is_err_and c.from_residual-in_err-put.result c.from_residual-in_err-put.ensures.1 in
    rw (q.1, q.2) (pass_first (limited kind.Force (place d c.args.i) force_limit (update (problem d) (forces x) c.args.i)) (first_to d.nv (λ k. limited kind.Reach (k + 1) reach_limit (reach (problem d) (after_update (problem d) (forces x) c.args.i) k))) (Some c.in_err-put.field-0.0) c.in_ok-x.ensures.first
    (subst (λ (y : ℤ). Some c.in_err-put.field-0.0 ≡ first_to d.nv (λ k. limited kind.Reach (k + 1) reach_limit (reach (problem d) (put_at (forces x) c.args.i y) k))) c.in_ok-x.ensures.value c.in_err-put.ensures.first))

pub returns-clause-first : goal.returns-clause-first
unfolding row_fault
returns-clause-first c =
    let d = c.args.dual.now in
    let x = c.args.out.now in
    pass_first (limited kind.Force (place d c.args.i) force_limit (update (problem d) (forces x) c.args.i)) (first_to d.nv (λ k. limited kind.Reach (k + 1) reach_limit (reach (problem d) (after_update (problem d) (forces x) c.args.i) k))) None c.in_ok-x.ensures.first
    (subst (λ (y : ℤ). None ≡ first_to d.nv (λ k. limited kind.Reach (k + 1) reach_limit (reach (problem d) (put_at (forces x) c.args.i y) k))) c.in_ok-x.ensures.value c.in_ok-put.ensures.first)

pub returns-clause-change : goal.returns-clause-change
unfolding change_at
returns-clause-change c =
    let d = c.args.dual.now in
    let x = c.args.out.now in
    let p = problem d in
    let s : c.step.result.mid ≡ update p (forces x) c.args.i -ℤ forces x c.args.i = c.step.ensures.value ∙ ap₂ (λ a b. a -ℤ b) c.in_ok-x.ensures.value (sym (ap (λ y. y.mid) (c.at-f.ensures (plain (pos 0))))) in
    c.change.ensures ∙ ap (int_wrap w128) (same_change _ (gradient p (forces x) c.args.i) _ (divisor p c.args.i) _ (update p (forces x) c.args.i -ℤ forces x c.args.i) c.gradient-slope.ensures.value
    (sym (ap (λ e. e.d) (c.entry.ensures c.entry.result.now)) ∙ (c.in_ok-put.ensures.held.ready c.args.i c.requires.row).divisor c.entry.result.now) s)
