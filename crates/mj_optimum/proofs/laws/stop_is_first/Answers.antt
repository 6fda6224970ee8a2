use Rattle.mj_optimum.proofs.StopLaws.{stop_without_rows, stop_at_tolerance, stop_at_limit}
use Rattle.mj_optimum.proofs.laws.stop_is_first.Goals as goal

pub returns : goal.returns
returns c = record { no_rows = stop_without_rows; within_tolerance = stop_at_tolerance; at_limit = stop_at_limit }
