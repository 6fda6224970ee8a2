use Rattle.std.proofs.Common.{sym, arith}
use Rattle.mj_tape.proofs.Fields.{field-none}
use Rattle.mj_tape.proofs.judge.control_at.Goals as goal

pub returns-in-None : goal.returns-in-None
returns-in-None c = absurd (omega (arith, field-none _ _ (sym c.in-None.ensures.value)))
