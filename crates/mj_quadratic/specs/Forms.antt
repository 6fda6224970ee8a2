-- Quadratic forms over integers, how large their rows are, and what a factor leaves of a matrix. The usual definitions.
use Rattle.std.specs.Prelude.{◌≡◌, ℕ, ◌<◌, ◌==◌, ℤ, ◌-ℤ◌, ◌*ℤ◌, unsigned_abs}
use Rattle.fx_whole.specs.Sums.{sum_to, sum_ℕ_to, when}

-- row i of m y
abbrev pub row_times : ℕ → (ℕ → ℕ → ℤ) → (ℕ → ℤ) → ℕ → ℤ
row_times n m y i = sum_to n (λ j. m i j *ℤ y j)

-- y . m y
abbrev pub form : ℕ → (ℕ → ℕ → ℤ) → (ℕ → ℤ) → ℤ
form n m y = sum_to n (λ i. y i *ℤ row_times n m y i)

-- y . y
abbrev pub square_length : ℕ → (ℕ → ℤ) → ℤ
square_length n y = sum_to n (λ i. y i *ℤ y i)

-- the sum of the sizes of row i
abbrev pub row_size : ℕ → (ℕ → ℕ → ℤ) → ℕ → ℕ
row_size n m i = sum_ℕ_to n (λ j. unsigned_abs (m i j))

abbrev pub IsSymmetric : ℕ → (ℕ → ℕ → ℤ) → Type 0
IsSymmetric n m = (i j : ℕ) → i < n → j < n → m i j ≡ m j i

-- m less c on its diagonal
abbrev pub less_diagonal : ℤ → (ℕ → ℕ → ℤ) → ℕ → ℕ → ℤ
less_diagonal c m i j = m i j -ℤ when (i == j) c

-- ---- a factor L^T D L, by its numbers d and l
-- D_r L_ri L_rj
abbrev pub product : (ℕ → ℤ) → (ℕ → ℕ → ℤ) → ℕ → ℕ → ℕ → ℤ
product d l i j r = (d r *ℤ l r i) *ℤ l r j

-- m less L^T D L, which is at a scale w times that of m
abbrev pub error : ℕ → ℤ → (ℕ → ℕ → ℤ) → (ℕ → ℤ) → (ℕ → ℕ → ℤ) → ℕ → ℕ → ℤ
error n w m d l i j = m i j *ℤ w -ℤ sum_to n (product d l i j)
