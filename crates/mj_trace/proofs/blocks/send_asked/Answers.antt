use Rattle.mj_io.proofs.Sent.{sent-nothing}
use Rattle.mj_trace.proofs.blocks.send_asked.Goals as goal

pub returns-in-None : goal.returns-in-None
returns-in-None g c = rw c.in-None.is (sent-nothing g.S.Sink.holds g.S.Sink.faults c.args.sink.now c.args.page.now)
