use Rattle.std.proofs.Common.{refl, sym, ap₂, ◌++◌, ◌∙◌, codes}
use Rattle.mj_io.proofs.Sent.{sent-then}
use Rattle.mj_trace.specs.Refusal.{path_text}
use Rattle.mj_trace.proofs.refusals.send_model_refusal.Goals as goal

pub returns : goal.returns
returns g c =
    sent-then (sent-then (sent-then c.send.ensures.sent c.send-2.ensures.sent refl) c.send_path.ensures refl) c.send-3.ensures.sent
    (ap₂ (λ name path. ((codes "refused model " ++ name) ++ path_text path) ++ codes "\n") (sym (c.as_bytes.ensures.value ∙ c.name.ensures)) (sym c.as_slice.ensures))
