-- Tests of ℤ as facts. They would stand in fx_whole.
use Rattle.std.proofs.Common.{◌≡◌, ℤ, ◌≤ℤ◌, ◌<ℤ◌, true, false, arith}
use Rattle.std.specs.Prelude.{int_le, int_lt}
use Rattle.std.proofs.lemmas.Int.{ints}

pub int_le_true : (a b : ℤ) → int_le a b ≡ true → a ≤ℤ b
int_le_true a b e = grind (arith, ints)

pub int_le_false : (a b : ℤ) → int_le a b ≡ false → b <ℤ a
int_le_false a b e = grind (arith, ints)

pub int_le_from : (a b : ℤ) → a ≤ℤ b → int_le a b ≡ true
int_le_from a b h = grind (arith, ints)

pub int_lt_true : (a b : ℤ) → int_lt a b ≡ true → a <ℤ b
int_lt_true a b e = grind (arith, ints)

pub int_lt_false : (a b : ℤ) → int_lt a b ≡ false → b ≤ℤ a
int_lt_false a b e = grind (arith, ints)

pub int_le_none : (a b : ℤ) → b <ℤ a → int_le a b ≡ false
int_le_none a b h = grind (arith, ints)
