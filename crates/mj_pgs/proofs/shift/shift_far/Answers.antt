use Rattle.std.proofs.Common.{◌≡◌, ◌+◌, ◌+ℤ◌, ◌*ℤ◌, ◌∙◌, ℤ, ap, pos, sym, arith}
use Rattle.std.proofs.lemmas.Result.{err_from_is_err_and}
use Rattle.fx_whole.proofs.FirstLaws.{stop_here}
use Rattle.mj_types.specs.Parts.{number_at, plain}
use Rattle.mj_types.specs.Ranges.{limited}
use Rattle.mj_types.specs.declared.range.Quantity.TheVariants as kind
use Rattle.mj_optimum.specs.Limits.{reach_limit}
use Rattle.mj_pgs.specs.Holding.{moved, shift_fault}
use Rattle.mj_pgs.proofs.ShiftLaws.{shifted-more}
use Rattle.mj_pgs.proofs.shift.shift_far.Goals as goal

pub loop-k-preserved : goal.loop-k-preserved
loop-k-preserved c =
    let so = c.loop-k.invariant in
    let k = c.loop-k.k in
    let value : c.moved.result.raw ≡ moved c.args.row.now c.args.u.now c.args.step.mid k =
    c.moved.ensures ∙ ap (λ (x : ℤ). x +ℤ number_at c.args.row.now k *ℤ c.args.step.mid) (sym (ap (λ x. x.mid) (c.at.ensures (plain (pos 0)))) ∙ so.shifted.past k (omega arith)) in
    shifted-more c.args.row.now c.args.u.now c.loop-k.u _ c.args.step.mid k c.in_ok-x.x so c.put.ensures.len (c.put.ensures.same (plain (pos 0))) c.put.ensures.others
    (c.in_ok-x.ensures.value ∙ value) c.in_ok-x.ensures.small (c.in_ok-x.ensures.first ∙ ap (limited kind.Reach (k + 1) reach_limit) value)

pub returns-in_err-x-clause-first : goal.returns-in_err-x-clause-first
returns-in_err-x-clause-first c =
    let q = err_from_is_err_and c.from_residual.result c.from_residual.ensures.1 in
    let so = c.loop-k.invariant in
    let k = c.loop-k.k in
    let value : c.moved.result.raw ≡ moved c.args.row.now c.args.u.now c.args.step.mid k =
    c.moved.ensures ∙ ap (λ (x : ℤ). x +ℤ number_at c.args.row.now k *ℤ c.args.step.mid) (sym (ap (λ x. x.mid) (c.at.ensures (plain (pos 0)))) ∙ so.shifted.past k (omega arith)) in
    rw (q.1, q.2) (stop_here k c.args.n (shift_fault c.args.row.now c.args.u.now c.args.step.mid) c.in_err-x.field-0.0 c.loop-k-test.true so.passed (c.in_err-x.ensures.first ∙ ap (limited kind.Reach (k + 1) reach_limit) value))
