-- Numerals by their parts, and what such a numeral stands for: what the grammar and its readings
-- mean.
use Rattle.std.specs.Prelude.{◌≡◌, ◌⊎◌, ℕ, ◌+◌, ◌<◌, ◌≤◌, ℤ, pos, ◌-ℤ◌, Bool, true, false, nat_lt, if◌then◌else◌, List, [], ◌∷◌, ◌++◌, length, Option, Some, None, IfSome, Result, Err}
use Rattle.std.specs.List.{list_all}
use Rattle.fx_text.specs.Numeral.{kind_of, is_numeral}
use Rattle.fx_text.specs.Decimal.{is_digit, number, apply_sign, scale_decimal, in_range, decimal}
use Rattle.fx_text.specs.declared.decimal.DecimalFault.{DecimalFault}
use Rattle.fx_text.specs.declared.decimal.DecimalFault.TheVariants.{TooLong}

-- a sign: none, a + or a -
pub data Sign : Type 0 where
  unsigned : Sign
  plus : Sign
  minus : Sign

-- an exponent: its mark, e or E, its sign, and its digits
pub record Exponent : Type 0 where
  pub mark : ℕ
  pub sign : Sign
  pub digits : List ℕ

-- a numeral: its sign, the digits before its point, those behind it if it has one, and its exponent
-- if it has one
pub record Parts : Type 0 where
  pub sign : Sign
  pub whole : List ℕ
  pub fraction : Option (List ℕ)
  pub exponent : Option Exponent

abbrev pub sign_text : Sign → List ℕ
sign_text unsigned = []
sign_text plus = 43 ∷ []
sign_text minus = 45 ∷ []

abbrev pub fraction_text : Option (List ℕ) → List ℕ
fraction_text None = []
fraction_text (Some digits) = 46 ∷ digits

abbrev pub exponent_text : Option Exponent → List ℕ
exponent_text None = []
exponent_text (Some e) = e.mark ∷ sign_text e.sign ++ e.digits

-- the text of a numeral
abbrev pub text_of : Parts → List ℕ
text_of p = sign_text p.sign ++ (p.whole ++ (fraction_text p.fraction ++ exponent_text p.exponent))

-- the digits behind the point
abbrev pub behind_point : Option (List ℕ) → List ℕ
behind_point None = []
behind_point (Some digits) = digits

abbrev pub AreDigits : List ℕ → Type 0
AreDigits bytes = list_all (λ b. is_digit (kind_of b)) bytes ≡ true

-- an exponent has one or two digits
pub record IsExponent (e : Exponent) : Type 0 where
  pub mark : (e.mark ≡ 69) ⊎ (e.mark ≡ 101)
  pub digits : AreDigits e.digits
  pub some : 0 < length e.digits
  pub few : length e.digits ≤ 2

-- parts of a numeral: there is a digit before the point or behind it
pub record ArePartsOfNumeral (p : Parts) : Type 0 where
  pub whole : AreDigits p.whole
  pub fraction : AreDigits (behind_point p.fraction)
  pub some : 0 < length p.whole + length (behind_point p.fraction)
  pub exponent : IfSome p.exponent IsExponent

abbrev pub is_minus : Sign → Bool
is_minus minus = true
is_minus _ = false

-- the exponent of ten
abbrev pub power_of : Option Exponent → ℤ
power_of None = pos 0
power_of (Some e) = apply_sign (is_minus e.sign) (number e.digits)

-- what a numeral with these parts stands for at scale F
abbrev pub parts_value : ℕ → Parts → Result ℤ DecimalFault
parts_value F p =
    if nat_lt 26 (length p.whole + length (behind_point p.fraction)) then Err TooLong
    else in_range (apply_sign (is_minus p.sign) (scale_decimal F (number (p.whole ++ behind_point p.fraction)) (pos (length (behind_point p.fraction)) -ℤ power_of p.exponent)))

-- every numeral is read as its parts say
abbrev pub NumeralsAreRead : Type 0
NumeralsAreRead =
    (F : ℕ) (p : Parts) → ArePartsOfNumeral p → decimal F (text_of p) ≡ parts_value F p

-- every numeral is the text of some parts
abbrev pub NumeralsHaveParts : Type 0
NumeralsHaveParts =
    (text : List ℕ) → is_numeral text ≡ true → (p : Parts) × ArePartsOfNumeral p × (text ≡ text_of p)
