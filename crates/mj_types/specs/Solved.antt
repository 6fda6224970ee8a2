-- What a solver promises of the forces of a dual, and a certificate asks of them.
use Rattle.std.specs.Prelude.{◌≡◌, ℕ, ◌^◌, ◌<◌, ◌≤◌, pos, unsigned_abs}
use Rattle.mj_optimum.specs.Cost.{reach}
use Rattle.mj_optimum.specs.Feasible.{IsFeasible}
use Rattle.mj_optimum.specs.Limits.{weight_to, pull_to}
use Rattle.mj_types.specs.declared.dual.Dual.{Dual}
use Rattle.mj_types.specs.declared.dual.Forces.{Forces}
use Rattle.mj_types.specs.Parts.{number_at}
use Rattle.mj_types.specs.Problems.{problem, forces}

-- they are feasible, u = G^T f, and all are within a solver's limits
pub record IsSolved (d : Dual) (x : Forces) : Type 0 where
  pub feasible : IsFeasible (problem d) (forces x) (pos 1)
  pub reached : (k : ℕ) → k < d.nv → number_at x.u k ≡ reach (problem d) (forces x) k
  pub small : (i : ℕ) → i < d.m → unsigned_abs (forces x i) ≤ 2 ^ 50
  pub near : (k : ℕ) → k < d.nv → unsigned_abs (number_at x.u k) ≤ 2 ^ 59
  pub weight : weight_to (problem d) (forces x) d.m ≤ 2 ^ 124
  pub pull : pull_to (problem d) (forces x) d.m ≤ 2 ^ 124
