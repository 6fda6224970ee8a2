-- Rounding of a quotient of integers: to the nearest, and a tie to the one nearer to zero.
-- A rule of this project's own.
use Rattle.std.specs.Prelude.{◌≡◌, ℕ, suc, ◌+◌, ◌*◌, ◌/◌, ◌≤◌, ℤ, pos, negsuc, ◌-ℤ◌, ◌*ℤ◌, neg_ℤ, unsigned_abs}

-- m with the sign of n
abbrev pub with_sign : ℤ → ℕ → ℤ
with_sign (pos n) m = pos m
with_sign (negsuc n) m = neg_ℤ (pos m)

-- (2 |n| + (d - 1)) / (2 d) rounded down, with the sign of n;
-- 0 where d <= 0, so that it is defined everywhere
unfoldable pub nearest : ℤ → ℤ → ℤ
nearest n (pos (suc e)) = with_sign n ((2 * unsigned_abs n + e) / (2 * suc e))
nearest n _ = pos 0

-- m is the integer nearest to n / d, and of two that are equally near the one nearer to zero
pub record IsNearest (n d m : ℤ) : Type 0 where
  pub close : 2 * unsigned_abs (n -ℤ m *ℤ d) ≤ unsigned_abs d
  pub tie : 2 * unsigned_abs (n -ℤ m *ℤ d) ≡ unsigned_abs d → unsigned_abs (m *ℤ d) ≤ unsigned_abs n
