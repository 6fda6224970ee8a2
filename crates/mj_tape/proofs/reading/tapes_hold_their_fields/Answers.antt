use Rattle.mj_tape.proofs.Held.{tapes-hold}
use Rattle.mj_tape.proofs.reading.tapes_hold_their_fields.Goals as goal

pub returns : goal.returns
returns c = tapes-hold
