use Rattle.std.proofs.Common.{◌≡◌, ◌<◌, ◌≤◌, ◌+◌, ℕ, arith}
use Rattle.std.proofs.lemmas.Result.{err_from_is_err_and}
use Rattle.fx_whole.proofs.FirstLaws.{stop_here}
use Rattle.mj_types.specs.Parts.{number_at}
use Rattle.mj_euler.specs.Advance.{velocity_fault}
use Rattle.mj_euler.proofs.integration.move_velocities.Goals as goal

pub returns-in_err-x-clause-first : goal.returns-in_err-x-clause-first
returns-in_err-x-clause-first c =
    let r = err_from_is_err_and c.from_residual.result c.from_residual.ensures.1 in
    rw (r.1, r.2)
    (stop_here c.loop-d.d c.args.model.now.nv (velocity_fault c.args.model.now c.args.state.now (number_at c.args.accel.now)) _ (omega arith) c.loop-d.invariant.passed c.in_err-x.ensures.first)
