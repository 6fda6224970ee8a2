use Rattle.mj_step.proofs.BallLaws.{in_ball}
use Rattle.mj_step.proofs.laws.solutions_are_in_balls.Goals as goal

pub returns : goal.returns
returns c = in_ball
