use Rattle.std.proofs.Common.{refl, arith}
use Rattle.mj_io.proofs.Sent.{sent-then}
use Rattle.fx_text.proofs.Sizes.{pow_ten-pos}
use Rattle.fx_text.proofs.print.send_places.Goals as goal

pub nonzero_div-n : goal.nonzero_div-n
nonzero_div-n g c = let p = pow_ten-pos c.args.places in omega arith

pub nonzero_rem-n : goal.nonzero_rem-n
nonzero_rem-n g c = let p = pow_ten-pos c.args.places in omega arith

pub returns : goal.returns
returns g c =
    let pieces = sent-then c.send_natural.ensures c.send.ensures.sent refl in
    sent-then pieces c.send_padded.ensures (rw c.pow-unit.ensures refl)
