-- Lines of numbers. Lines end with a line feed, numbers are raw decimals, separated by one space. A format of this project's own.
use Rattle.std.specs.Prelude.{ℕ, ℤ, List, ◌++◌, codes}
use Rattle.std.specs.Fmt.{signed_decimal}
use Rattle.fx_whole.specs.Joined.{joined}

-- a label and a text on a line
abbrev pub line : List ℕ → List ℕ → List ℕ
line label text = (label ++ text) ++ codes "\n"

-- a number after a space
abbrev pub spaced : ℤ → List ℕ
spaced n = codes " " ++ signed_decimal n

-- f 0, .., f (n - 1), each after a space
abbrev pub numbers_text : ℕ → (ℕ → ℤ) → List ℕ
numbers_text n f = joined n (λ i. spaced (f i))
