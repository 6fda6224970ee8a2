-- What a run's carriers hold after a step that was done.
use Rattle.std.specs.Prelude.{◌≡◌, ℕ, ◌<◌, pos, IsTrue, List, length}
use Rattle.mj_types.specs.declared.model.Model.{Model}
use Rattle.mj_types.specs.declared.state.State.{State}
use Rattle.mj_types.specs.declared.wants.Inverse.{Inverse}
use Rattle.mj_types.specs.Control.{Control}
use Rattle.mj_types.specs.Parts.{number_at}
use Rattle.mj_types.specs.States.{Fits}
use Rattle.mj_types.specs.StepValues.{values_of, dual_values}
use Rattle.mj_inverse.specs.Separated.{force_of, gap, discrepancy}
use Rattle.mj_step.specs.Steps.{free_load, smooth, load, acceleration, dual_at, problem_at, step_state, step_values}
use Rattle.mj_step.specs.Workspace.{MadeFor, HasMass, HasRows, CanPush, HasLoad, HasAcceleration, CanEnclose}
use Rattle.mj_run.specs.declared.run.Runner.{Runner}
use Rattle.mj_run.specs.Told.{given_at}

-- a step from the state s under the controls u
pub record HasStepped (m : Model) (s : State) (u : List Control) (r : Runner) : Type 0 where
  pub made : MadeFor m r.work
  pub fits : Fits m r.state
  pub room : length r.inverse.x ≡ m.njmax
  pub done : IsTrue r.work.is_done
  pub state_ : r.state ≡ step_state m s u
  pub report_ : values_of r.state r.work.report ≡ step_values m s u
  pub dual_ : dual_values r.work.dual ≡ dual_at m s u
  pub count : r.work.report.count ≡ length r.work.report.rows.list
  pub rows_ : HasRows m s u r.work.rows r.work.dual
  pub can_push : CanPush m.nv r.work.rows r.work.dual r.work.report.forces
  pub mass_ : HasMass m s r.work.mass
  pub load_ : HasLoad m (load m s u) r.work.load
  pub accel_ : HasAcceleration m (acceleration m s u) r.work.accel.items
  pub can_enclose : CanEnclose m r.work.mass r.work.accel.items
  pub free_load_ : HasLoad m (free_load m s u) r.work.free_load
  pub smooth_ : HasAcceleration m (smooth m s u) r.work.smooth.items

-- and its inverse dynamics
pub record HasInverse (m : Model) (s : State) (u : List Control) (i : Inverse) : Type 0 where
  pub x_ : (k : ℕ) → k < (problem_at m s u).m → number_at i.x k ≡ force_of (given_at m s u) k
  pub gap_ : i.gap ≡ pos (gap (given_at m s u))
  pub discrepancy_ : i.discrepancy ≡ pos (discrepancy (given_at m s u))
