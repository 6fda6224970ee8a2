-- What a solver answers: how its sweeps end, which is at a stop or at the first number past its limit. MuJoCo documentation, Computation chapter (PGS); the limits are this project's own.
use Rattle.std.specs.Prelude.{ℕ, ◌+◌, ◌==◌, ℤ, pos, cond, Option, Some, None, Result, Ok, Err}
use Rattle.fx_whole.specs.First.{or_first, first_to}
use Rattle.mj_optimum.specs.Problem.{Problem}
use Rattle.mj_optimum.specs.Cost.{reach}
use Rattle.mj_optimum.specs.Sweep.{update, after_update, pass, sweep, iterate}
use Rattle.mj_optimum.specs.Limits.{force_limit, reach_limit}
use Rattle.mj_optimum.specs.Stop.{stop_after}
use Rattle.mj_optimum.specs.declared.stop.Stop.{Stop}
use Rattle.mj_optimum.specs.declared.stop.Stop.TheVariants.{NoRows, Limit}
use Rattle.mj_types.specs.declared.range.OutOfRange.{OutOfRange}
use Rattle.mj_types.specs.declared.range.Quantity.TheVariants as kind
use Rattle.mj_types.specs.Ranges.{limited}
use Rattle.mj_cost.specs.Costs.{cost_fault}

-- ---- the first number past its limit; `place` numbers the rows
-- in the update of row i: its force, then u
unfoldable pub row_fault : Problem → (ℕ → ℕ) → (ℕ → ℤ) → ℕ → Option OutOfRange
row_fault p place f i =
    or_first (limited kind.Force (place i) force_limit (update p f i))
    (first_to p.nv (λ k. limited kind.Reach (k + 1) reach_limit (reach p (after_update p f i) k)))

-- in a sweep from f, row by row
unfoldable pub pass_fault : Problem → (ℕ → ℕ) → (ℕ → ℤ) → Option OutOfRange
pass_fault p place f = first_to p.m (λ i. row_fault p place (pass p f i) i)

-- in a sweep from f, and then in the cost of what it gives
unfoldable pub sweep_fault : Problem → (ℕ → ℕ) → (ℕ → ℤ) → Option OutOfRange
sweep_fault p place f = or_first (pass_fault p place f) (first_to p.m (cost_fault p place (sweep p f)))

-- ---- the answer
abbrev pub refused : Option OutOfRange → Option (Result Stop OutOfRange)
refused None = None
refused (Some fault) = Some (Err fault)

abbrev pub stopped : Option Stop → Option (Result Stop OutOfRange)
stopped None = None
stopped (Some stop) = Some (Ok stop)

-- how sweep s + 1 ends the run, where it does
unfoldable pub ending : Problem → (ℕ → ℕ) → ℤ → ℕ → Option (Result Stop OutOfRange)
ending p place tolerance s = or_first (refused (sweep_fault p place (iterate p s))) (stopped (stop_after p tolerance s))

abbrev pub or_end : Option (Result Stop OutOfRange) → Result Stop OutOfRange → Result Stop OutOfRange
or_end None last = last
or_end (Some first) last = first

unfoldable pub answer : Problem → (ℕ → ℕ) → ℤ → ℕ → Result Stop OutOfRange
answer p place tolerance limit = cond (p.m == 0) (Ok NoRows) (or_end (first_to limit (ending p place tolerance)) (Ok (Limit limit)))
