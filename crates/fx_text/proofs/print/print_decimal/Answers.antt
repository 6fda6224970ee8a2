use Rattle.mj_io.proofs.Sent.{wrote-finished}
use Rattle.fx_text.proofs.print.print_decimal.Goals as goal

pub returns : goal.returns
returns g c =
    let w = wrote-finished c.finish.result c.new-page.ensures c.send_decimal.ensures c.finish.ensures.sent in
    record { ok = w.whole; err = w.part; cause = w.cause; calm = w.calm; later = w.later }
