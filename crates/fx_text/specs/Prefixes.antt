-- Prefixes of numerals: what the place of a bad byte means.
use Rattle.std.specs.Prelude.{◌≡◌, ℕ, suc, ◌<◌, ◌≤◌, true, false, List, ◌++◌, length, take, Err}
use Rattle.fx_text.specs.Numeral.{is_numeral}
use Rattle.fx_text.specs.Decimal.{decimal}
use Rattle.fx_text.specs.declared.decimal.DecimalFault.TheVariants.{BadByte}

-- these bytes begin a numeral
abbrev pub BeginNumeral : List ℕ → Type 0
BeginNumeral prefix = (rest : List ℕ) × (is_numeral (prefix ++ rest) ≡ true)

-- a text that is no numeral, and of which this many bytes begin one and no more
pub record StopsAt (text : List ℕ) (at : ℕ) : Type 0 where
  pub no_numeral : is_numeral text ≡ false
  pub within : at ≤ length text
  pub begins : BeginNumeral (take at text)
  pub stops : at < length text → BeginNumeral (take (suc at) text) → ⊥

-- where a text is refused at a byte, the bytes before it are the longest prefix that begins a
-- numeral
abbrev pub RefusedBytesStop : Type 0
RefusedBytesStop =
    (F : ℕ) (text : List ℕ) (at : ℕ) → decimal F text ≡ Err (BadByte at) → StopsAt text at
