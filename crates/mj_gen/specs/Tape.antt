-- The text of a tape of sines: a row for each step, a column for each motor. This project's own.
use Rattle.std.specs.Prelude.{ℕ, ◌+◌, ◌*◌, ◌%◌, ◌^◌, ◌==◌, ℤ, pos, cond, List, [], ◌++◌, codes}
use Rattle.fx_whole.specs.Joined.{joined}
use Rattle.fx_text.specs.Places.{decimal_text}
use Rattle.mj_quat.specs.Sine.{sine}

-- the angle in row k and column j, both from 1, at scale 32: so many sixty-fourths
abbrev pub angle : ℕ → ℕ → ℕ → ℤ
angle seed k j = pos ((k * j + seed % 1024) * 2 ^ 26)

-- a comma before each field but the first
abbrev pub separator : ℕ → List ℕ
separator j = cond (j == 1) [] (codes ",")

-- the sine in row k and column j with six decimal places
unfoldable pub field_text : ℕ → ℕ → ℕ → List ℕ
field_text seed k j = separator j ++ decimal_text 6 (sine (angle seed k j))

-- the fields of row k
abbrev pub fields_text : ℕ → ℕ → ℕ → List ℕ
fields_text seed width k = joined width (λ j. field_text seed k (j + 1))

unfoldable pub row_text : ℕ → ℕ → ℕ → List ℕ
row_text seed width k = fields_text seed width k ++ codes "\n"

-- so many rows of so many columns
unfoldable pub tape_text : ℕ → ℕ → ℕ → List ℕ
tape_text seed rows width = joined rows (λ k. row_text seed width (k + 1))
