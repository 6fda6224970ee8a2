-- Counts of faults. A count never falls, and stands still at its greatest value, 2 ^ 64 - 1.
use Rattle.std.specs.Prelude.{ℕ, ◌+◌, ◌-◌, ◌^◌, ◌≤◌, min}

-- the greatest value of a count
abbrev pub count_limit : ℕ
count_limit = 2 ^ 64 - 1

-- the count was `old` and rose: it is larger now, or stands at its greatest value
abbrev pub Rose : ℕ → ℕ → Type 0
Rose old new = min (old + 1) count_limit ≤ new

-- a count after one more
abbrev pub raised : ℕ → ℕ
raised n = min (n + 1) count_limit
