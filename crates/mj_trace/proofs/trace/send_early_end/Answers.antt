use Rattle.std.proofs.Common.{refl, sym, ap, ◌++◌, ◌∙◌, codes, decimal}
use Rattle.mj_io.proofs.Sent.{sent-then}
use Rattle.mj_trace.specs.Trace.{end_text}
use Rattle.mj_trace.proofs.trace.send_early_end.Goals as goal

pub returns : goal.returns
unfolding end_text
returns g c = sent-then (sent-then (sent-then (sent-then c.send_counted.ensures c.send.ensures.sent refl) c.send-2.ensures.sent refl) c.send_counted-2.ensures refl) c.send-3.ensures.sent (ap (λ name. (((codes "end out-of-range step=" ++ decimal c.args.step) ++ codes " kind=") ++ name) ++ (codes " index=" ++ decimal c.args.index) ++ codes "\n") (sym (c.as_bytes.ensures.value ∙ c.name.ensures)))
