use Rattle.std.proofs.Common.{refl}
use Rattle.mj_io.proofs.Sent.{sent-then}
use Rattle.mj_gen.specs.Tape.{row_text}
use Rattle.mj_gen.proofs.tape.send_row.Goals as goal

pub returns : goal.returns
unfolding row_text
returns g c = sent-then c.send_fields.ensures c.send.ensures.sent refl
