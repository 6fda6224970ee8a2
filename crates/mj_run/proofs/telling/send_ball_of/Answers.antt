use Rattle.std.proofs.Common.{List, ℕ, ap, subst}
use Rattle.mj_io.specs.Sent.{Sent}
use Rattle.mj_trace.specs.Wanted.{ball_text}
use Rattle.mj_run.proofs.StepLaws.{stepped-same}
use Rattle.mj_run.proofs.telling.send_ball_of.Goals as goal

pub returns-clause-stepped : goal.returns-clause-stepped
returns-clause-stepped g c = λ s u has.
    let kept = c.ball-ball.ensures in
    stepped-same c.args.model.now s u c.args.runner.now has c.ball-ball.new.self kept.made kept.report kept.dual kept.rows kept.smooth kept.mass kept.free_load kept.whole_load kept.accel kept.flag

pub returns-clause-sent : goal.returns-clause-sent
returns-clause-sent g c = λ s u has.
    let P = λ (text : List ℕ). Sent g.S.Sink.holds g.S.Sink.faults c.args.sink.now c.args.page.now text c.send_ball.new.sink c.send_ball.new.page in
    subst P (ap ball_text (c.ball-ball.ensures.of_step s u has.mass_ has.accel_ has.load_)) c.send_ball.ensures.sent
