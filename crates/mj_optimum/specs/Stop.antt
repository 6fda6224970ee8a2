-- When the sweeps stop: after the first that lowers the cost by no more than the tolerance, or at the limit. MuJoCo documentation, Computation chapter (PGS).
use Rattle.std.specs.Prelude.{ℕ, suc, ◌^◌, ◌==◌, ℤ, pos, ◌*ℤ◌, int_le, cond, Option, Some, None}
use Rattle.fx_whole.specs.First.{first_to}
use Rattle.mj_optimum.specs.declared.stop.Stop.{Stop}
use Rattle.mj_optimum.specs.declared.stop.Stop.TheVariants.{NoRows, Tolerance, Limit}
use Rattle.mj_optimum.specs.Problem.{Problem}
use Rattle.mj_optimum.specs.Sweep.{drop_of}

-- whether the run stops after sweep s + 1; the tolerance is at 2^-32
abbrev pub stop_after : Problem → ℤ → ℕ → Option Stop
stop_after p tolerance s = cond (int_le (drop_of p s) (tolerance *ℤ pos (2 ^ 56))) (Some (Tolerance (suc s))) None

abbrev pub or_limit : Option Stop → ℕ → Stop
or_limit (Some stop) limit = stop
or_limit None limit = Limit limit

abbrev pub stop_of : Problem → ℤ → ℕ → Stop
stop_of p tolerance limit = cond (p.m == 0) NoRows (or_limit (first_to limit (stop_after p tolerance)) limit)

-- how many sweeps were made
abbrev pub sweeps_of : Stop → ℕ
sweeps_of NoRows = 0
sweeps_of (Tolerance s) = s
sweeps_of (Limit s) = s
