use Rattle.mj_form.proofs.Steps.{step-then, step-end}
use Rattle.mj_judge.specs.Softness.{soft_at}
use Rattle.mj_judge.proofs.keys.judge_soft.Goals as goal

pub returns : goal.returns
unfolding soft_at
returns c = step-then _ c.judge_reference-r.ensures (step-then _ c.judge_impedance-i.ensures (rw c.soft.ensures step-end))
