-- What the ball of a step is worth.
use Rattle.std.specs.Prelude.{◌^◌, pos, List, IfSome}
use Rattle.mj_quadratic.specs.Balls.{Encloses}
use Rattle.mj_types.specs.declared.model.Model.{Model}
use Rattle.mj_types.specs.declared.state.State.{State}
use Rattle.mj_types.specs.Control.{Control}
use Rattle.mj_step.specs.Steps.{mass_of, load, acceleration, ball_at}

-- where there is one, it holds each rational solution x of M x = tau - c + J^T f
abbrev pub IsInBall : Model → State → List Control → Type 0
IsInBall m s u = IfSome (ball_at m s u) (λ b. Encloses m.nv (mass_of m s) (acceleration m s u) (load m s u) (pos (2 ^ 40)) b.radius)
