use Rattle.mj_dual.proofs.LawfulLaws.{state_dual-regular, state_dual-zero}
use Rattle.mj_dual.proofs.lawful.state_duals_are_lawful.Goals as goal

pub returns : goal.returns
returns c = record { regular = state_dual-regular; zero = state_dual-zero }
