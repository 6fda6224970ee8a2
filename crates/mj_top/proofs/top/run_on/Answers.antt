use Rattle.std.proofs.Common.{ap, ◌∙◌, length}
use Rattle.mj_io.proofs.Sent.{wrote-finished}
use Rattle.mj_run.specs.Controls.{controls_at, tape_of}
use Rattle.mj_run.specs.Course.{end_of}
use Rattle.mj_run.specs.Run.{course}
use Rattle.mj_top.specs.Outcome.{ran, status_of}
use Rattle.mj_top.specs.Ends.{unless_failed}
use Rattle.mj_top.proofs.Endings.{ends-from_wrote, told-status_of}
use Rattle.mj_top.proofs.top.run_on.Goals as goal

pub returns-in-Ok : goal.returns-in-Ok
returns-in-Ok g c =
    let m = c.args.model.now in
    let tape = tape_of c.args.controls.now in
    ends-from_wrote g.S.Sink.holds g.S.Sink.faults c.args.sink.now c.finish-written.new.sink c.finish-written.result (ran c.args.wants c.args.steps m tape) c.answered.result
    (told-status_of (end_of (course c.args.wants m (controls_at (length m.motors) tape)) c.args.steps))
    (wrote-finished c.finish-written.result c.new-page.ensures c.in-Ok.ensures.sent c.finish-written.ensures.sent)
    (c.answered.ensures ∙ ap (unless_failed c.finish-written.result) (c.status_of.ensures ∙ ap status_of c.in-Ok.ensures.end))
