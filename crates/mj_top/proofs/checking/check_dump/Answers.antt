use Rattle.std.proofs.Common.{inr, refl}
use Rattle.mj_top.specs.Outcome.{judged_as}
use Rattle.mj_top.proofs.checking.check_dump.Goals as goal

pub returns-in-Ok : goal.returns-in-Ok
returns-in-Ok g c = inr (judged_as c.in-Ok.verdict, (c.in-Ok.verdict, c.in-Ok.ensures.verdict, refl), c.tell.ensures)
