-- Which states fit a model: each position and velocity of it is there and within its limit.
use Rattle.mj_types.specs.declared.model.Model.{Model}
use Rattle.mj_types.specs.declared.state.State.{State}
use Rattle.mj_types.specs.Lawful.{ArePositions, AreVelocities}

pub record Fits (m : Model) (s : State) : Type 0 where
  pub positions : ArePositions m.joints m.nq s.q
  pub velocities : AreVelocities m.nv s.v
