use Rattle.mj_io.proofs.Sent.{wrote-finished}
use Rattle.mj_top.specs.Outcome.{tape_refused}
use Rattle.mj_top.proofs.Endings.{ends-from_wrote}
use Rattle.mj_top.proofs.top.refuse_tape.Goals as goal

pub returns : goal.returns
returns g c =
    ends-from_wrote g.S.Sink.holds g.S.Sink.faults c.args.sink.now c.finish-written.new.sink c.finish-written.result (tape_refused c.args.number c.args.fault) c.answered.result tt
    (wrote-finished c.finish-written.result c.new-page.ensures c.send_tape_refusal.ensures c.finish-written.ensures.sent) c.answered.ensures
