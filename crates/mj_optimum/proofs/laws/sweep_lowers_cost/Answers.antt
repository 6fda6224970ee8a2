use Rattle.mj_optimum.proofs.SweepLaws.{sweep_lowers_cost, iterate_costs_at_most_zero, drop_over_rows}
use Rattle.mj_optimum.proofs.laws.sweep_lowers_cost.Goals as goal

pub returns : goal.returns
returns c = record { falls = sweep_lowers_cost; below_zero = iterate_costs_at_most_zero; drop = drop_over_rows }
