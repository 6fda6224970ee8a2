-- How far M a is from a right side s. The usual definition; scales are this project's own.
use Rattle.std.specs.Prelude.{ℕ, zero, suc, ◌^◌, max, ℤ, pos, ◌-ℤ◌, ◌*ℤ◌, unsigned_abs}
use Rattle.fx_whole.specs.Sums.{sum_to}

-- the greatest of f 0, .., f (n - 1); 0 where there is none
abbrev pub greatest_to : ℕ → (ℕ → ℕ) → ℕ
greatest_to zero f = 0
greatest_to (suc n) f = max (greatest_to n f) (f n)

-- |sum of M_ij a_j - s_i|
abbrev pub residual_at : ℕ → (ℕ → ℕ → ℤ) → (ℕ → ℤ) → (ℕ → ℤ) → ℕ → ℕ
residual_at n m a s i = unsigned_abs (sum_to n (λ j. m i j *ℤ a j) -ℤ s i *ℤ pos (2 ^ 40))
