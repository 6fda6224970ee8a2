-- Laws of counts of faults.
use Rattle.std.proofs.Common.{ℕ, ◌≤◌, arith}
use Rattle.mj_io.specs.Faults.{Rose}

-- a count that rose has risen still when it is later
pub Rose-then_later : (a b c : ℕ) → Rose a b → b ≤ c → Rose a c
Rose-then_later a b c rose later = omega arith

-- a count that rose after a while has risen from the start
pub Rose-after : (a b c : ℕ) → a ≤ b → Rose b c → Rose a c
Rose-after a b c later rose = omega arith
