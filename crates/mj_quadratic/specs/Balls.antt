-- How far the rational solutions of m x = v s are from an answer a. A solution x / d is given by whole numbers: m x = d v s, with d > 0.
use Rattle.std.specs.Prelude.{◌≡◌, ℕ, ◌<◌, ℤ, pos, ◌-ℤ◌, ◌*ℤ◌, ◌<ℤ◌, ◌≤ℤ◌}
use Rattle.mj_quadratic.specs.Forms.{row_times, square_length}

abbrev pub Solves : ℕ → (ℕ → ℕ → ℤ) → (ℕ → ℤ) → ℤ → (ℕ → ℤ) → ℤ → Type 0
Solves n m s v x d = (i : ℕ) → i < n → row_times n m x i ≡ d *ℤ (s i *ℤ v)

-- how far a is from a solution in row i
abbrev pub miss : ℕ → (ℕ → ℕ → ℤ) → (ℕ → ℤ) → (ℕ → ℤ) → ℤ → ℕ → ℤ
miss n m a s v i = row_times n m a i -ℤ s i *ℤ v

-- the squares of x / d - a sum to at most r^2, for each solution
abbrev pub Encloses : ℕ → (ℕ → ℕ → ℤ) → (ℕ → ℤ) → (ℕ → ℤ) → ℤ → ℤ → Type 0
Encloses n m a s v r = (x : ℕ → ℤ) (d : ℤ) → pos 0 <ℤ d → Solves n m s v x d
    → square_length n (λ i. x i -ℤ d *ℤ a i) ≤ℤ ((d *ℤ d) *ℤ (r *ℤ r))
