-- Faults of numbers that pass a limit. The usual definition.
use Rattle.std.specs.Prelude.{ℕ, nat_lt, cond, Option, Some, None}

-- the fault, where n passes the limit
abbrev pub past : {E : Type 0} → ℕ → ℕ → E → Option E
past limit n fault = cond (nat_lt limit n) (Some fault) None
