-- The number that a decimal numeral stands for, at a binary scale, and what is refused.
use Rattle.std.specs.Prelude.{ℕ, suc, ◌-◌, ◌+◌, ◌*◌, ◌^◌, ℤ, pos, negsuc, neg_ℤ, ◌-ℤ◌, unsigned_abs, int_le, Bool, true, false, ◌&&◌, ◌==◌, nat_lt, nat_le, if◌then◌else◌, cond, List, [], ◌∷◌, take, drop, count_by, Result, Ok, Err}
use Rattle.std.specs.List.{fold}
use Rattle.fx_whole.specs.Nearest.{nearest}
use Rattle.fx_text.specs.Numeral.{kind_of, is_numeral, prefix_length}
use Rattle.fx_text.specs.declared.numeral.Kind.{Kind}
use Rattle.fx_text.specs.declared.numeral.Kind.TheVariants.{Digit, Point, Mark}
use Rattle.fx_text.specs.declared.decimal.DecimalFault.{DecimalFault}
use Rattle.fx_text.specs.declared.decimal.DecimalFault.TheVariants.{Empty, BadByte, TooLong, Range}

abbrev pub is_digit : Kind → Bool
is_digit (Digit d) = true
is_digit _ = false

abbrev pub is_point : Kind → Bool
is_point Point = true
is_point _ = false

abbrev pub is_mark : Kind → Bool
is_mark Mark = true
is_mark _ = false

-- the place of the first byte of such a kind, or the end
abbrev pub first_of : (Kind → Bool) → List ℕ → ℕ
first_of test [] = 0
first_of test (b ∷ bs) = cond (test (kind_of b)) 0 (suc (first_of test bs))

-- the bytes before the first of such a kind
abbrev pub before : (Kind → Bool) → List ℕ → List ℕ
before test bytes = take (first_of test bytes) bytes

-- the bytes behind the first of such a kind
abbrev pub after : (Kind → Bool) → List ℕ → List ℕ
after test bytes = drop (suc (first_of test bytes)) bytes

-- n with a digit behind it; another byte changes nothing
abbrev pub with_byte : ℕ → Kind → ℕ
with_byte n (Digit d) = 10 * n + d
with_byte n _ = n

-- the digits among the bytes as a whole number
abbrev pub number : List ℕ → ℕ
number bytes = fold (λ n b. with_byte n (kind_of b)) 0 bytes

-- how many digits are among the bytes
abbrev pub digit_count : List ℕ → ℕ
digit_count bytes = count_by (λ b. is_digit (kind_of b)) bytes

-- the bytes begin with a minus
abbrev pub is_negative : List ℕ → Bool
is_negative [] = false
is_negative (b ∷ bs) = b == 45

-- the whole number with this size, below zero where the test says so
abbrev pub apply_sign : Bool → ℕ → ℤ
apply_sign negative size = if negative then neg_ℤ (pos size) else pos size

-- the part of a numeral before its exponent
abbrev pub mantissa : List ℕ → List ℕ
mantissa text = before is_mark text

-- the digits behind the point
abbrev pub fraction : List ℕ → List ℕ
fraction text = after is_point (mantissa text)

-- the exponent of ten that a numeral ends with, 0 where it has none
abbrev pub exponent : List ℕ → ℤ
exponent text = let part = after is_mark text in apply_sign (is_negative part) (number part)

-- n / 10 ^ k at scale F, rounded to the nearest whole number; 0 where k passes 38
abbrev pub scale_decimal : ℕ → ℕ → ℤ → ℕ
scale_decimal F n (pos k) =
    if nat_le k 38 then unsigned_abs (nearest (pos (n * 2 ^ F)) (pos (10 ^ k))) else 0
scale_decimal F n (negsuc j) = n * 2 ^ F * 10 ^ suc j

-- the size of the number that a numeral stands for, at scale F
abbrev pub size_at : ℕ → List ℕ → ℕ
size_at F text =
    scale_decimal F (number (mantissa text)) (pos (digit_count (fraction text)) -ℤ exponent text)

-- v where it is of 64 bits
abbrev pub in_range : ℤ → Result ℤ DecimalFault
in_range v =
    if int_le (negsuc (2 ^ 63 - 1)) v && int_le v (pos (2 ^ 63 - 1)) then Ok v else Err Range

-- what a numeral stands for at scale F
abbrev pub value : ℕ → List ℕ → Result ℤ DecimalFault
value F text =
    if nat_lt 26 (digit_count (mantissa text)) then Err TooLong else in_range (apply_sign (is_negative text) (size_at F text))

-- what a text is read as at scale F: a text with no bytes, one that is no numeral, one with too
-- many digits before its exponent and one whose number doesn't fit are refused in this order
unfoldable pub decimal : ℕ → List ℕ → Result ℤ DecimalFault
decimal F [] = Err Empty
decimal F (b ∷ bs) =
    if is_numeral (b ∷ bs) then value F (b ∷ bs) else Err (BadByte (prefix_length (b ∷ bs)))
