use Rattle.std.proofs.Common.{refl, ap, sym, length, codes, ◌++◌}
use Rattle.mj_io.proofs.Sent.{sent-then}
use Rattle.mj_types.specs.Parts.{number_at}
use Rattle.mj_trace.specs.Summaries.{places_text}
use Rattle.mj_trace.proofs.summaries.send_places_line.Goals as goal

pub returns : goal.returns
returns g c =
    sent-then (sent-then c.send.ensures.sent c.send_places.ensures refl) c.send-2.ensures.sent
    (ap (λ xs. (c.args.label.now ++ places_text (length xs) (number_at xs)) ++ codes "\n") (sym c.as_slice.ensures))
