-- Numbers as words write them: `0`, or digits without a leading zero. A format of this project's own.
use Rattle.std.specs.Prelude.{ℕ, ◌+◌, ◌-◌, ◌*◌, Bool, false, ◌&&◌, ◌||◌, not, ◌==◌, nat_le, cond, List, [], ◌∷◌, length, fold, Option, Some, None}
use Rattle.std.specs.List.{list_all}

-- a decimal digit
abbrev pub is_digit : ℕ → Bool
is_digit byte = nat_le 48 byte && nat_le byte 57

-- the digit may lead the rest: zero leads nothing
abbrev pub leads : ℕ → List ℕ → Bool
leads first rest = length rest == 0 || not (first == 48)

-- a number: `0`, or digits without a leading zero
abbrev pub is_number : List ℕ → Bool
is_number [] = false
is_number (first ∷ rest) = list_all is_digit (first ∷ rest) && leads first rest

-- the number that digits write
abbrev pub digits_value : List ℕ → ℕ
digits_value digits = fold (λ n digit. 10 * n + (digit - 48)) 0 digits

-- the number up to `most` that a word writes
abbrev pub number_up_to : ℕ → List ℕ → Option ℕ
number_up_to most text =
    cond (is_number text && nat_le (digits_value text) most) (Some (digits_value text)) None

-- the number, unless it is below `least`
abbrev pub at_least : ℕ → Option ℕ → Option ℕ
at_least least (Some n) = cond (nat_le least n) (Some n) None
at_least least None = None

-- the number from `least` to `most` that a word writes
abbrev pub number_within : ℕ → ℕ → List ℕ → Option ℕ
number_within least most text = at_least least (number_up_to most text)
