-- Numbers within the limits of the model format, as raw values.
use Rattle.std.specs.Prelude.{ℕ, ℤ, pos, Bool, ◌&&◌, nat_le, int_le, unsigned_abs, List, slice_index_or}
use Rattle.fx_num.specs.declared.number.Number.{Number}
use Rattle.mj_types.specs.Parts.{plain}
use Rattle.mj_judge.specs.Judged.{Judged, limited}

abbrev pub Fix : ℕ → Type 0
Fix F = Number (Unit {0}) F

-- the number at a place, 0 past the end
abbrev pub entry : {F : ℕ} → List (Fix F) → ℕ → Fix F
entry xs i = slice_index_or xs i (plain (pos 0))

abbrev pub is_between : ℤ → ℤ → ℤ → Bool
is_between least most n = int_le least n && int_le n most

abbrev pub is_small : ℕ → ℤ → Bool
is_small limit n = nat_le (unsigned_abs n) limit

-- a number from the least to the most
unfoldable pub between : {F : ℕ} → ℤ → ℤ → Fix F → Judged (Fix F)
between least most x = limited (is_between least most x.mid) x

-- a number of at most that size
unfoldable pub small : {F : ℕ} → ℕ → Fix F → Judged (Fix F)
small limit x = limited (is_small limit x.mid) x

-- an integer from the least to the most
unfoldable pub whole : ℕ → ℕ → ℤ → Judged ℕ
whole least most n = limited (is_between (pos least) (pos most) n) (unsigned_abs n)
