use Rattle.std.proofs.Common.{◌≡◌, ◌^◌, true, false, Option, Some, None, length, sym, ap, ◌∙◌}
use Rattle.std.proofs.lemmas.Bool.{cond-true, cond-false}
use Rattle.std.proofs.lemmas.Result.{err_from_is_err_and}
use Rattle.fx_whole.proofs.FirstLaws.{pass_first, stop_first}
use Rattle.mj_types.specs.declared.dual.DualRow.{DualRow}
use Rattle.mj_types.specs.declared.range.Quantity.TheVariants as kind
use Rattle.mj_types.specs.Parts.{number_at}
use Rattle.mj_types.specs.Ranges.{limited}
use Rattle.mj_dual.specs.Actives.{active_fault, active_entry}
use Rattle.mj_dual.specs.Reductions.{dynamics, diagonal, is_idle, reduced_fault}
use Rattle.mj_dual.proofs.ReductionLaws.{diagonal_is, diagonal_whole, reduction_idle, reduction_active}
use Rattle.mj_dual.proofs.reducing.reduce.Goals as goal

pub returns-in_err-diag-clause-first : goal.returns-in_err-diag-clause-first
returns-in_err-diag-clause-first c =
    let y = dynamics c.args.model.now c.args.state.now c.args.factor.now c.args.smooth.now in
    let j = number_at c.args.jacobian.now in
    let at = c.square_sum.ensures.value ∙ diagonal_is y j c.half.new.out (c.half.auto.out ∙ c.requires.out) c.in_ok-half.ensures.value in
    let r = err_from_is_err_and c.from_residual-in_err-diag.result c.from_residual-in_err-diag.ensures.1 in
    rw (r.1, r.2)
    (pass_first (reduced_fault c.args.number y j) _ _ c.in_ok-half.ensures.first
    (stop_first _ _ _ (c.in_err-diag.ensures.first ∙ ap (limited kind.Regularizer c.args.number (2 ^ 72)) at)))

pub returns-then-is_idle-clause-value : goal.returns-then-is_idle-clause-value
returns-then-is_idle-clause-value c =
    let y = dynamics c.args.model.now c.args.state.now c.args.factor.now c.args.smooth.now in
    let j = number_at c.args.jacobian.now in
    let at = c.square_sum.ensures.value ∙ diagonal_is y j c.half.new.out (c.half.auto.out ∙ c.requires.out) c.in_ok-half.ensures.value in
    let same = ap (λ x. x.raw) c.in_ok-diag.ensures.value ∙ at in
    let idle : is_idle (diagonal y j) ≡ true = sym (ap is_idle same) ∙ sym c.is_idle.ensures ∙ c.if-is_idle.true in
    sym (cond-true {A = Option DualRow} (is_idle (diagonal y j)) None (Some (active_entry c.args.number y.motion (diagonal y j) c.args.row.now j)) idle)

pub returns-then-is_idle-clause-first : goal.returns-then-is_idle-clause-first
returns-then-is_idle-clause-first c =
    let y = dynamics c.args.model.now c.args.state.now c.args.factor.now c.args.smooth.now in
    let j = number_at c.args.jacobian.now in
    let at = c.square_sum.ensures.value ∙ diagonal_is y j c.half.new.out (c.half.auto.out ∙ c.requires.out) c.in_ok-half.ensures.value in
    let same = ap (λ x. x.raw) c.in_ok-diag.ensures.value ∙ at in
    let idle : is_idle (diagonal y j) ≡ true = sym (ap is_idle same) ∙ sym c.is_idle.ensures ∙ c.if-is_idle.true in
    reduction_idle (reduced_fault c.args.number y j) _ (active_fault c.args.number y.motion (diagonal y j) c.args.row.now.soft c.args.row.now.r.mid j) _
    c.in_ok-half.ensures.first (c.in_ok-diag.ensures.first ∙ ap (limited kind.Regularizer c.args.number (2 ^ 72)) at) idle

pub returns-in_err-entry-clause-first : goal.returns-in_err-entry-clause-first
returns-in_err-entry-clause-first c =
    let y = dynamics c.args.model.now c.args.state.now c.args.factor.now c.args.smooth.now in
    let j = number_at c.args.jacobian.now in
    let at = c.square_sum.ensures.value ∙ diagonal_is y j c.half.new.out (c.half.auto.out ∙ c.requires.out) c.in_ok-half.ensures.value in
    let same = ap (λ x. x.raw) c.in_ok-diag.ensures.value ∙ at in
    let idle : is_idle (diagonal y j) ≡ false = sym (ap is_idle same) ∙ sym c.is_idle.ensures ∙ c.if-is_idle.false in
    let r = err_from_is_err_and c.from_residual-in_err-entry.result c.from_residual-in_err-entry.ensures.1 in
    rw (r.1, r.2)
    (reduction_active (reduced_fault c.args.number y j) _ (active_fault c.args.number y.motion (diagonal y j) c.args.row.now.soft c.args.row.now.r.mid j) _ _
    c.in_ok-half.ensures.first (c.in_ok-diag.ensures.first ∙ ap (limited kind.Regularizer c.args.number (2 ^ 72)) at) idle
    (c.in_err-entry.ensures.first ∙ ap (λ d. active_fault c.args.number y.motion d c.args.row.now.soft c.args.row.now.r.mid j) same))

pub returns-clause-value : goal.returns-clause-value
returns-clause-value c =
    let y = dynamics c.args.model.now c.args.state.now c.args.factor.now c.args.smooth.now in
    let j = number_at c.args.jacobian.now in
    let at = c.square_sum.ensures.value ∙ diagonal_is y j c.half.new.out (c.half.auto.out ∙ c.requires.out) c.in_ok-half.ensures.value in
    let same = ap (λ x. x.raw) c.in_ok-diag.ensures.value ∙ at in
    let idle : is_idle (diagonal y j) ≡ false = sym (ap is_idle same) ∙ sym c.is_idle.ensures ∙ c.if-is_idle.false in
    ap Some (c.in_ok-entry.ensures.value ∙ ap (λ d. active_entry c.args.number y.motion d c.args.row.now j) same)
    ∙ sym (cond-false {A = Option DualRow} (is_idle (diagonal y j)) None (Some (active_entry c.args.number y.motion (diagonal y j) c.args.row.now j)) idle)

pub returns-clause-lawful : goal.returns-clause-lawful
returns-clause-lawful c =
    let n = c.args.model.now.nv in
    let g = c.half.new.out in
    let wide : length g ≡ n = c.half.auto.out ∙ c.requires.out in
    record {
      width = wide;
      reduced = c.in_ok-half.ensures.small;
      ranges = c.in_ok-entry.ensures.ranges;
    }

pub returns-clause-solvable : goal.returns-clause-solvable
returns-clause-solvable c =
    let n = c.args.model.now.nv in
    let g = c.half.new.out in
    c.in_ok-entry.ensures.solvable n g (ap (λ x. x.raw) c.in_ok-diag.ensures.value ∙ c.square_sum.ensures.value ∙ diagonal_whole g n (c.half.auto.out ∙ c.requires.out))

pub returns-clause-first : goal.returns-clause-first
returns-clause-first c =
    let y = dynamics c.args.model.now c.args.state.now c.args.factor.now c.args.smooth.now in
    let j = number_at c.args.jacobian.now in
    let at = c.square_sum.ensures.value ∙ diagonal_is y j c.half.new.out (c.half.auto.out ∙ c.requires.out) c.in_ok-half.ensures.value in
    let same = ap (λ x. x.raw) c.in_ok-diag.ensures.value ∙ at in
    let idle : is_idle (diagonal y j) ≡ false = sym (ap is_idle same) ∙ sym c.is_idle.ensures ∙ c.if-is_idle.false in
    reduction_active (reduced_fault c.args.number y j) _ (active_fault c.args.number y.motion (diagonal y j) c.args.row.now.soft c.args.row.now.r.mid j) _ _
    c.in_ok-half.ensures.first (c.in_ok-diag.ensures.first ∙ ap (limited kind.Regularizer c.args.number (2 ^ 72)) at) idle
    (c.in_ok-entry.ensures.first ∙ ap (λ d. active_fault c.args.number y.motion d c.args.row.now.soft c.args.row.now.r.mid j) same)
