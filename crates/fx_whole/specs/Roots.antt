-- The integer square root: the greatest integer whose square is at most n. The usual definition.
use Rattle.std.specs.Prelude.{ℕ, zero, suc, ◌*◌, ℤ, pos, negsuc, ◌+ℤ◌, ◌*ℤ◌, ◌≤ℤ◌, ◌<ℤ◌, cond, nat_le}

-- the greatest s up to a bound with s * s <= n
abbrev pub greatest_root : ℕ → ℕ → ℕ
greatest_root n zero = zero
greatest_root n (suc s) = cond (nat_le (suc s * suc s) n) (suc s) (greatest_root n s)

-- 0 where n is negative, so that it is defined everywhere
unfoldable pub isqrt : ℤ → ℤ
isqrt (pos n) = pos (greatest_root n n)
isqrt (negsuc _) = pos 0

-- s is that root
pub record IsRoot (n s : ℤ) : Type 0 where
  pub not_negative : pos 0 ≤ℤ s
  pub below : (s *ℤ s) ≤ℤ n
  pub above : n <ℤ ((s +ℤ pos 1) *ℤ (s +ℤ pos 1))
