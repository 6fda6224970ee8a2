use Rattle.std.proofs.Common.{arith}
use Rattle.mj_form.proofs.Steps.{step-next}
use Rattle.mj_walk.specs.Counts.{counts}
use Rattle.mj_walk.proofs.CountLaws.{few-told, some-told}
use Rattle.mj_walk.proofs.counts.walk_counts.Goals as goal

pub returns : goal.returns
unfolding counts
returns c =
    (step-next (rw c.len.ensures at c.judge_few.ensures)
    (step-next (few-told _ _ _ _ c.all_geoms.ensures c.judge_few-2.ensures (omega arith))
    (step-next (rw c.len-2.ensures at c.judge_few-3.ensures)
    (step-next (rw c.len-3.ensures at c.judge_few-4.ensures)
    (step-next (rw c.len-4.ensures at c.judge_few-5.ensures)
    (step-next (few-told _ _ _ _ c.all_dofs-dofs.ensures c.judge_few-6.ensures (omega arith))
    (some-told _ _ c.all_dofs-dofs.ensures c.judge_some_dof.ensures)))))))
