-- A number at scale 32 printed with a number of decimal places. A format of this project's own.
use Rattle.std.specs.Prelude.{ℕ, ◌-◌, ◌*◌, ◌/◌, ◌%◌, ◌^◌, ℤ, pos, unsigned_abs, int_lt, Bool, ◌&&◌, nat_lt, cond, List, [], ◌++◌, length, replicate, codes, decimal}
use Rattle.fx_whole.specs.Nearest.{nearest}

-- a size at scale 32 in units of 10 ^ -places, rounded to the nearest
abbrev pub unit_count : ℕ → ℕ → ℕ
unit_count places size = unsigned_abs (nearest (pos (size * 10 ^ places)) (pos (2 ^ 32)))

-- the digits of a number, with zeros before them up to this many
abbrev pub padded : ℕ → ℕ → List ℕ
padded places n = replicate (places - length (decimal n)) 48 ++ decimal n

-- a minus, where the test says so
abbrev pub minus_text : Bool → List ℕ
minus_text negative = cond negative (codes "-") []

-- a number of units of 10 ^ -places: the integer part, a point and the places
abbrev pub places_text : ℕ → ℕ → List ℕ
places_text places n = (decimal (n / 10 ^ places) ++ codes ".") ++ padded places (n % 10 ^ places)

-- the number with this raw value, with a minus where it is below zero and not rounded to zero
abbrev pub decimal_text : ℕ → ℤ → List ℕ
decimal_text places raw =
    minus_text (int_lt raw (pos 0) && nat_lt 0 (unit_count places (unsigned_abs raw)))
    ++ places_text places (unit_count places (unsigned_abs raw))
