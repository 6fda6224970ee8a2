-- Products of rows with vectors: each sum is exact. The usual definitions; the scale is this project's own.
use Rattle.std.specs.Prelude.{ℕ, ℤ, ◌*ℤ◌}
use Rattle.fx_whole.specs.Sums.{sum_to}
use Rattle.fx_num.specs.Settled.{settled_mid}

-- g . g
unfoldable pub square_sum : ℕ → (ℕ → ℤ) → ℤ
square_sum n g = sum_to n (λ k. g k *ℤ g k)

-- j . x at scale 64, rounded once to scale 32
unfoldable pub along : ℕ → (ℕ → ℤ) → (ℕ → ℤ) → ℤ
along n j x = settled_mid (sum_to n (λ k. j k *ℤ x k)) 32
