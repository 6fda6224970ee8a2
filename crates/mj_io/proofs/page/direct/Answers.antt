use Rattle.std.proofs.Common.{rules, ◌≡◌, true}
use Rattle.mj_io.proofs.Sent.{Sent-whole}
use Rattle.mj_io.proofs.page.direct.Goals as goal

pub returns-in-Ok : goal.returns-in-Ok
returns-in-Ok g c =
    let on : c.args.going ≡ true = search rules in
    rw on
    (Sent-whole g.S.Sink.holds g.S.Sink.faults c.args.sink.now c.put.new.sink c.args.bytes.now
    c.in-Ok.ensures.ok c.in-Ok.ensures.later c.in-Ok.ensures.calm)
