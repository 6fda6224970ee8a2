use Rattle.mj_io.proofs.Sent.{wrote-finished}
use Rattle.mj_top.specs.Outcome.{written}
use Rattle.mj_top.proofs.Endings.{ends-from_wrote}
use Rattle.mj_top.proofs.top.write_whole.Goals as goal

pub returns : goal.returns
returns g c =
    ends-from_wrote g.S.Sink.holds g.S.Sink.faults c.args.sink.now c.finish-written.new.sink c.finish-written.result
    (written c.args.text.now) c.answered.result tt
    (wrote-finished c.finish-written.result c.new-page.ensures c.send.ensures.sent c.finish-written.ensures.sent) c.answered.ensures
