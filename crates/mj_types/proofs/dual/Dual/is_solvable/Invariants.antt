use Rattle.std.proofs.Common.{ℕ, ◌<◌}
use Rattle.mj_types.specs.Duals.{IsSolvableRow, bound_at, entry_at, wide_at}
use Rattle.mj_types.proofs.dual.Dual.is_solvable.Given as goal

abbrev pub invariant-loop-i : goal.invariant-loop-i
invariant-loop-i l = (j : ℕ) → j < l.i → IsSolvableRow l.self.nv (entry_at l.self.nv l.self.g j) (wide_at l.self.diag j) (bound_at l.self.low j) (bound_at l.self.high j)
