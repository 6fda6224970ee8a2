-- Numbers as `print_raw` writes them.
use Rattle.std.specs.Prelude.{◌≡◌, ℕ, ◌^◌, ◌-◌, ◌≤◌, ℤ, pos, negsuc, Bool, ◌&&◌, ◌||◌, not, ◌==◌, List, length, Option, Some, None, IfSome, decimal}
use Rattle.std.specs.Fmt.{signed_decimal}

-- the number is of 128 bits with its sign
abbrev pub IsWide : ℤ → Type 0
IsWide (pos n) = n ≤ 2 ^ 127 - 1
IsWide (negsuc n) = n ≤ 2 ^ 127 - 1

-- what a text is read as: the number whose text it is, and nothing where it is no number's
pub record IsRead (text : List ℕ) (read : Option ℤ) : Type 0 where
  pub told : IfSome read (λ n. text ≡ signed_decimal n)
  pub wide : IfSome read IsWide
  pub only : (n : ℤ) → IsWide n → text ≡ signed_decimal n → read ≡ Some n

-- the same of naturals up to `most`
pub record IsNaturalRead (most : ℕ) (text : List ℕ) (read : Option ℕ) : Type 0 where
  pub told : IfSome read (λ n. text ≡ decimal n)
  pub few : IfSome read (λ n. n ≤ most)
  pub only : (n : ℕ) → n ≤ most → text ≡ decimal n → read ≡ Some n
