-- The numbers that a seed gives: Knuth's linear congruential generator of MMIX, and the highest 16 bits of each of its numbers.
use Rattle.std.specs.Prelude.{ℕ, zero, suc, ◌+◌, ◌*◌, ◌/◌, ◌%◌, ◌^◌}

-- the number after x
abbrev pub number_after : ℕ → ℕ
number_after x = (6364136223846793005 * x + 1442695040888963407) % 2 ^ 64

-- number k: the seed itself is number 0
unfoldable pub number : ℕ → ℕ → ℕ
number seed zero = seed
number seed (suc k) = number_after (number seed k)

-- the highest 16 bits of a number of 64 bits
abbrev pub high_bits : ℕ → ℕ
high_bits x = x / 2 ^ 48

-- what is drawn at k
abbrev pub draw : ℕ → ℕ → ℕ
draw seed k = high_bits (number seed k)
