use Rattle.std.proofs.Common.{ap}
use Rattle.mj_inverse.specs.Separated.{inverse_fault}
use Rattle.mj_step.specs.Steps.{step_fault}
use Rattle.mj_run.specs.Course.{done_by, end_by}
use Rattle.mj_run.specs.Run.{state_at}
use Rattle.mj_run.specs.Told.{given_at, with_more}
use Rattle.mj_run.proofs.laws.told_runs_end_alike.Goals as goal

pub returns-clause-done : goal.returns-clause-done
returns-clause-done c = λ wants m controls n plain.
    ap (λ b. done_by (λ k. with_more b (step_fault m (state_at m controls k) (controls k)) (inverse_fault (given_at m (state_at m controls k) (controls k)))) n) plain

pub returns-clause-end : goal.returns-clause-end
returns-clause-end c = λ wants m controls n plain.
    ap (λ b. end_by (λ k. with_more b (step_fault m (state_at m controls k) (controls k)) (inverse_fault (given_at m (state_at m controls k) (controls k)))) n) plain
