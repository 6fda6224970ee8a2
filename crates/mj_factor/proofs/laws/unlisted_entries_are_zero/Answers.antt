use Rattle.mj_factor.proofs.FactorLaws.{work_apart, lower_apart}
use Rattle.mj_factor.proofs.laws.unlisted_entries_are_zero.Goals as goal

pub returns : goal.returns
returns c = record { work = work_apart; lower = lower_apart }
