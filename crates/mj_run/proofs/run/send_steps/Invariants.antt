use Rattle.std.proofs.Common.{◌≡◌, true, None, length}
use Rattle.fx_whole.specs.First.{first_to}
use Rattle.mj_io.specs.Sent.{Sent}
use Rattle.mj_step.specs.Workspace.{MadeFor}
use Rattle.mj_types.specs.States.{Fits}
use Rattle.mj_run.specs.Controls.{controls_at, tape_of}
use Rattle.mj_run.specs.Course.{blocks_text}
use Rattle.mj_run.specs.Run.{state_at, course}
use Rattle.mj_run.proofs.run.send_steps.Given as goal

abbrev pub invariant-loop-done : goal.invariant-loop-done
invariant-loop-done g l =
    let driven = controls_at (length l.model.motors) (tape_of l.controls) in
    record {
      made : MadeFor l.model l.runner.work;
      fits : Fits l.model l.runner.state;
      room : length l.runner.inverse.x ≡ l.model.njmax;
      state : l.runner.state ≡ state_at l.model driven l.done;
      passed : first_to l.done (course l.wants l.model driven).refusal ≡ None;
      sent : Sent g.S.Sink.holds g.S.Sink.faults l.initial.sink l.initial.page (blocks_text (course l.wants l.model driven) l.done) l.sink l.page;
      goes_on : l.initial.page.going ≡ true → l.page.going ≡ true;
    }
