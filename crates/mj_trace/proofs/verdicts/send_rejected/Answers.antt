use Rattle.std.proofs.Common.{◌++◌, ◌∙◌, refl, sym, ap, codes, decimal}
use Rattle.mj_io.proofs.Sent.{sent-then}
use Rattle.mj_trace.proofs.verdicts.send_rejected.Goals as goal

pub returns : goal.returns
returns g c = record {
  sent =
      sent-then (sent-then (sent-then c.send_counted.ensures c.send.ensures.sent refl) c.send-2.ensures.sent refl) c.send-3.ensures.sent
      (ap (λ name. (((codes "rejected " ++ decimal c.args.line) ++ codes " ") ++ name) ++ codes "\n") (sym (c.as_bytes.ensures.value ∙ c.name.ensures)));
}
