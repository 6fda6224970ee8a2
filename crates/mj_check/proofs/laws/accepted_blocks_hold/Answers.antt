use Rattle.mj_check.proofs.VerdictLaws.{accepted-holds}
use Rattle.mj_check.proofs.laws.accepted_blocks_hold.Goals as goal

pub returns : goal.returns
returns c = accepted-holds
