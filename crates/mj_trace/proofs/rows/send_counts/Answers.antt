use Rattle.std.proofs.Common.{refl, sym, ap₂, ◌++◌, codes, decimal}
use Rattle.mj_io.proofs.Sent.{sent-then}
use Rattle.mj_trace.proofs.rows.send_counts.Goals as goal

pub returns : goal.returns
returns g c =
    sent-then (sent-then c.send_counted.ensures c.send_counted-2.ensures refl) c.send.ensures.sent
    (ap₂ (λ a b. ((codes "rows " ++ decimal a) ++ (codes " idle " ++ decimal b)) ++ codes "\n") (sym c.len.ensures.count) (sym c.count_idle.ensures))
