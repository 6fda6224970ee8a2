use Rattle.mj_io.proofs.Sent.{sent-nothing}
use Rattle.mj_run.proofs.telling.send_asked_ball.Goals as goal

pub returns-else-wants-clause-sent : goal.returns-else-wants-clause-sent
returns-else-wants-clause-sent g c = λ s u has.
    rw c.if-wants.false (sent-nothing g.S.Sink.holds g.S.Sink.faults c.args.sink.now c.args.page.now)
