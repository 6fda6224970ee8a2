use Rattle.std.proofs.Common.{ℕ, ◌+◌, ◌^◌, ℤ, ◌+ℤ◌, ap, ◌∙◌, arith}
use Rattle.std.proofs.lemmas.Result.{err_from_is_err_and}
use Rattle.fx_whole.proofs.FirstLaws.{stop_here}
use Rattle.fx_num.specs.Settled.{settled_mid}
use Rattle.mj_types.specs.declared.range.Quantity.TheVariants as kind
use Rattle.mj_types.specs.Parts.{number_at}
use Rattle.mj_types.specs.Ranges.{limited}
use Rattle.mj_step.specs.Workspace.{push_of}
use Rattle.mj_step.proofs.loading.fill_load.Goals as goal

pub returns-in_err-here-clause-first : goal.returns-in_err-here-clause-first
returns-in_err-here-clause-first c =
    let a = c.args in
    let r = err_from_is_err_and c.from_residual.result c.from_residual.ensures.1 in
    rw (r.1, r.2)
    (stop_here c.loop-i.i a.nv
    (λ (k : ℕ). limited kind.Load (k + 1) (2 ^ 54) (number_at a.free.now k +ℤ settled_mid (push_of a.nv a.rows.now a.dual.now a.forces.now k) 20))
    _ (omega arith) c.loop-i.invariant.passed
    (c.in_err-here.ensures.first
    ∙ ap (limited kind.Load (c.loop-i.i + 1) (2 ^ 54)) (c.load_of.ensures ∙ ap (λ (z : ℤ). number_at a.free.now c.loop-i.i +ℤ settled_mid z 20) c.push.ensures.value)))
