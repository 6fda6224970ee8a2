use Rattle.mj_run.specs.Run.{state_at, course}
use Rattle.mj_run.proofs.CourseLaws.{going}
use Rattle.mj_run.proofs.Steps.{told-none}
use Rattle.mj_run.proofs.laws.told_steps_are_done.Goals as goal

pub returns : goal.returns
returns c = λ wants m controls n k h. told-none wants m (state_at m controls k) (controls k) (going (course wants m controls).refusal n k h)
