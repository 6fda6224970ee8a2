use Rattle.mj_io.proofs.Sent.{wrote-finished}
use Rattle.mj_trace.proofs.verdicts.rejected.Goals as goal

pub returns : goal.returns
returns g c = record { wrote = wrote-finished c.finish.result c.new-page.ensures c.send_rejected.ensures.sent c.finish.ensures.sent }
