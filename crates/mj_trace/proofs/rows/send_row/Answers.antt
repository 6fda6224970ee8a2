use Rattle.std.proofs.Common.{◌+◌, ◌++◌, refl, ap, codes, decimal}
use Rattle.mj_io.proofs.Sent.{sent-then}
use Rattle.mj_types.specs.StepValues.{no_row}
use Rattle.mj_trace.specs.Block.{row_text, source_text}
use Rattle.mj_trace.proofs.rows.send_row.Goals as goal

pub returns : goal.returns
unfolding row_text
returns g c =
    let number = sent-then (sent-then c.send.ensures.sent c.send_size.ensures.sent refl) c.send-2.ensures.sent refl in
    let source = sent-then number c.send_source.ensures (ap (λ r. ((codes "row " ++ decimal (c.args.i + 1)) ++ codes " ") ++ source_text r.source) (c.entry.ensures no_row)) in
    sent-then (sent-then source c.send_rest.ensures refl) c.send-3.ensures.sent refl
