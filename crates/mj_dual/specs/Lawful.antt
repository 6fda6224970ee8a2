-- Which constraints are lawful: the softness is one that a model may have, and the force 0 is within the bounds. MuJoCo documentation,
-- Computation, constraint model; the limits of a softness are this project's own.
use Rattle.std.specs.Prelude.{pos}
use Rattle.mj_optimum.specs.Feasible.{IsAbove, IsBelow}
use Rattle.mj_types.specs.Lawful.{IsSoft}
use Rattle.mj_rows.specs.Constraint.{Constraint}

pub record IsLawful (c : Constraint) : Type 0 where
  pub soft_ : IsSoft c.soft
  pub low_bound : IsAbove c.low (pos 0) (pos 1)
  pub high_bound : IsBelow c.high (pos 0) (pos 1)
