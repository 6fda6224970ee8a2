use Rattle.std.proofs.Common.{◌++◌, ◌∙◌, pos, refl, ap, codes, decimal}
use Rattle.fx_whole.proofs.EntryLaws.{below-within}
use Rattle.mj_io.proofs.Sent.{sent-then}
use Rattle.mj_types.specs.Parts.{plain}
use Rattle.mj_types.specs.Problems.{place}
use Rattle.mj_trace.specs.Lines.{spaced}
use Rattle.mj_trace.proofs.Joining.{sent-as}
use Rattle.mj_trace.proofs.wanted.send_row_force.Goals as goal

pub returns : goal.returns
returns g c =
    let d = c.args.dual.now in
    let place_text = ap (λ n. codes "x " ++ decimal n) (below-within 0 d.m (place d) c.args.i c.requires.row ∙ c.at.ensures 0) in
    let force_text = ap spaced (ap (λ x. x.mid) (c.entry.ensures (plain (pos 0)))) in
    sent-then (sent-then (sent-as place_text c.send_counted.ensures) (sent-as force_text c.send_spaced.ensures) refl) c.send.ensures.sent refl
