use Rattle.std.proofs.Common.{refl}
use Rattle.mj_io.proofs.Sent.{sent-then}
use Rattle.mj_trace.proofs.refusals.send_words_refusal.Goals as goal

pub returns : goal.returns
returns g c = sent-then (sent-then c.send.ensures.sent c.send_size.ensures.sent refl) c.send-2.ensures.sent refl
