use Rattle.std.proofs.Common.{◌≡◌, None, length}
use Rattle.fx_whole.specs.First.{first_to}
use Rattle.mj_step.specs.Workspace.{MadeFor}
use Rattle.mj_types.specs.States.{Fits}
use Rattle.mj_types.specs.declared.range.End.TheVariants as finish
use Rattle.mj_run.specs.Controls.{controls_at, tape_of}
use Rattle.mj_run.specs.Run.{state_at, told_at, refusal_at}
use Rattle.mj_run.specs.Summing.{summary_to, HasSpareSums}
use Rattle.mj_run.proofs.summing.sum_run.Given as goal

abbrev pub invariant-loop-done : goal.invariant-loop-done
invariant-loop-done l =
    let driven = controls_at (length l.model.motors) (tape_of l.controls) in
    record {
      made : MadeFor l.model l.runner.work;
      fits : Fits l.model l.runner.state;
      state : l.runner.state ≡ state_at l.model driven l.done;
      passed : first_to l.done (refusal_at l.model driven) ≡ None;
      spare : HasSpareSums l.sum;
      sums : l.sum ≡ summary_to (told_at l.model driven) l.done l.steps finish.Done;
    }
