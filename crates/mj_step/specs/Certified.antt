-- What the forces that a step tells are worth.
use Rattle.std.specs.Prelude.{pos, List}
use Rattle.fx_whole.specs.Entries.{below}
use Rattle.mj_force.specs.Enclosures.{IsEnclosed}
use Rattle.mj_types.specs.declared.dual.Dual.{Dual}
use Rattle.mj_types.specs.declared.model.Model.{Model}
use Rattle.mj_types.specs.declared.rows.StepReport.{StepReport}
use Rattle.mj_types.specs.declared.state.State.{State}
use Rattle.mj_types.specs.Control.{Control}
use Rattle.mj_types.specs.Parts.{number_at}
use Rattle.mj_types.specs.Problems.{forces}
use Rattle.mj_types.specs.StepValues.{active_count, dual_values}
use Rattle.mj_step.specs.Steps.{problem_at, step_values}

-- in the dual of the state that the step starts from the forces that it tells are feasible, every feasible rational force costs at least
-- the bound that it tells, and every one that costs no more than the forces lies in the box that it tells
abbrev pub IsCertified : Model → State → List Control → Type 0
IsCertified m s u =
    IsEnclosed (problem_at m s u) (step_values m s u).force (step_values m s u).bound (step_values m s u).lo (step_values m s u).hi

-- the same of a dual and of the report that holds its forces
abbrev pub HasCertificate : Dual → StepReport → Type 0
HasCertificate d r =
    IsEnclosed (dual_values d).problem (below (pos 0) (active_count r.rows.list) (forces r.forces)) r.cert.bound2
    (below (pos 0) (active_count r.rows.list) (number_at r.cert.lo)) (below (pos 0) (active_count r.rows.list) (number_at r.cert.hi))
