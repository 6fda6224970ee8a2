use Rattle.std.proofs.Common.{length, arith}
use Rattle.std.proofs.lemmas.Result.{err_from_is_err_and}
use Rattle.fx_whole.proofs.FirstLaws.{stop_here}
use Rattle.mj_kin.specs.Placings.{geom_fault}
use Rattle.mj_kin.proofs.geoms.place_geoms.Goals as goal

pub returns-in_err-place_geom-clause-first : goal.returns-in_err-place_geom-clause-first
returns-in_err-place_geom-clause-first c =
    let p = err_from_is_err_and c.from_residual.result c.from_residual.ensures.1 in
    rw (p.1, p.2)
    (stop_here c.loop-g.g (length c.args.model.now.geoms) (geom_fault c.args.model.now c.args.state.now) _ (omega arith) c.loop-g.invariant.passed c.in_err-place_geom.ensures.first)
