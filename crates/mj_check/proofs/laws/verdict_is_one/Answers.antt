use Rattle.mj_check.proofs.VerdictLaws.{verdict-one}
use Rattle.mj_check.proofs.laws.verdict_is_one.Goals as goal

pub returns : goal.returns
returns c = verdict-one
