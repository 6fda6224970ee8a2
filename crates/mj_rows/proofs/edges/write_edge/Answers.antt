use Rattle.std.proofs.Common.{ℕ, ◌^◌, arith}
use Rattle.std.proofs.lemmas.Result.{err_from_is_err_and}
use Rattle.fx_whole.proofs.FirstLaws.{stop_here}
use Rattle.mj_types.specs.declared.range.Quantity.TheVariants as kind
use Rattle.mj_types.specs.Ranges.{limited}
use Rattle.mj_rows.specs.Edges.{edge_slope}
use Rattle.mj_rows.specs.Slopes.{slope_at}
use Rattle.mj_rows.proofs.edges.write_edge.Goals as goal

pub returns-in_err-jacobian-clause-first : goal.returns-in_err-jacobian-clause-first
returns-in_err-jacobian-clause-first c =
    let ss = c.args.slopes.now in
    let r = err_from_is_err_and c.from_residual.result c.from_residual.ensures.1 in
    rw (r.1, r.2)
    (stop_here c.loop-d.d c.args.model.now.nv
    (λ (d : ℕ). limited kind.Jacobian c.args.number (2 ^ 48) (edge_slope c.args.friction.now.mid (slope_at ss d).normal.mid (slope_at ss d).first.mid (slope_at ss d).second.mid c.args.edge)) _ (omega arith)
    c.loop-d.invariant.passed c.in_err-jacobian.ensures.first)
