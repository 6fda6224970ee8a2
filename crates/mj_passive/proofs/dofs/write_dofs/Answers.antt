use Rattle.std.proofs.Common.{ℕ, ◌+◌, ◌^◌, arith}
use Rattle.std.proofs.lemmas.Result.{err_from_is_err_and}
use Rattle.fx_whole.proofs.FirstLaws.{stop_here}
use Rattle.mj_types.specs.declared.range.Quantity.TheVariants as kind
use Rattle.mj_types.specs.Duals.{wide_at}
use Rattle.mj_types.specs.Ranges.{limited}
use Rattle.mj_passive.specs.Forces.{tau_of}
use Rattle.mj_passive.proofs.dofs.write_dofs.Goals as goal

pub returns-in_err-force-clause-first : goal.returns-in_err-force-clause-first
returns-in_err-force-clause-first c =
    let m = c.args.model.now in
    let s = c.args.state.now in
    let r = err_from_is_err_and c.from_residual.result c.from_residual.ensures.1 in
    rw (r.1, r.2)
    (stop_here c.loop-d.d m.nv (λ (d : ℕ). limited kind.Applied (d + 1) (2 ^ 52) (tau_of m s (wide_at c.args.dofs.now d) d)) _ (omega arith) c.loop-d.invariant.passed c.in_err-force.ensures.first)
