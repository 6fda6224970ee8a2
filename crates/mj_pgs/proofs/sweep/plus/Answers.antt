use Rattle.std.proofs.Common.{rules}
use Rattle.std.proofs.lemmas.Int.{wraps}
use Rattle.mj_pgs.proofs.sweep.plus.Goals as goal

pub returns : goal.returns
returns c = search (rules, wraps)
