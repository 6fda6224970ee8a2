use Rattle.std.proofs.Common.{refl}
use Rattle.mj_io.proofs.Sent.{sent-then}
use Rattle.mj_gen.proofs.chain.send_named.Goals as goal

pub returns : goal.returns
returns g c =
    let label = sent-then c.send.ensures.sent c.send_unsigned.ensures.sent refl in
    sent-then label c.send-2.ensures.sent (rw c.from.ensures refl)
