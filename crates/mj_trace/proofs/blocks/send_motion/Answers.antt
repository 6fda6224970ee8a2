use Rattle.std.proofs.Common.{refl, sym, ap, codes}
use Rattle.mj_io.proofs.Sent.{sent-then}
use Rattle.mj_types.specs.Parts.{number_at}
use Rattle.mj_trace.specs.Block.{motion_text}
use Rattle.mj_trace.specs.Lines.{line, numbers_text}
use Rattle.mj_trace.proofs.Joining.{sent-as}
use Rattle.mj_trace.proofs.blocks.send_motion.Goals as goal

pub returns : goal.returns
unfolding motion_text
returns g c =
    let after_text = ap (λ n. line (codes "a") (numbers_text n (number_at c.args.report.now.accel))) (sym c.requires) in
    let front = sent-then (sent-then c.send_label_line.ensures c.send_list_line.ensures refl) c.send_list_line-2.ensures refl in
    let accel = sent-then front (sent-as after_text c.send_list_line-3.ensures) refl in
    sent-then (sent-then accel c.send_wide_line.ensures refl) c.send_two.ensures refl
