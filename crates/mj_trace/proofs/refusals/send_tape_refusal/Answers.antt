use Rattle.std.proofs.Common.{refl}
use Rattle.mj_io.proofs.Sent.{sent-then}
use Rattle.mj_trace.proofs.refusals.send_tape_refusal.Goals as goal

pub returns : goal.returns
returns g c =
    let tape = sent-then (sent-then c.send.ensures.sent c.send_size.ensures.sent refl) c.send-2.ensures.sent refl in
    sent-then (sent-then tape c.send_tape_fault.ensures refl) c.send-3.ensures.sent refl
