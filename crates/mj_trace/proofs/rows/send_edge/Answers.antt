use Rattle.std.proofs.Common.{refl, sym, ap, ◌++◌, codes, decimal}
use Rattle.mj_io.proofs.Sent.{sent-then}
use Rattle.mj_trace.proofs.rows.send_edge.Goals as goal

pub returns : goal.returns
returns g c = sent-then (sent-then c.send_counted.ensures c.send.ensures.sent refl) c.send_unsigned.ensures.sent (ap (λ n. ((codes "contact " ++ decimal c.args.contact) ++ codes " ") ++ decimal n) (sym c.from.ensures))
