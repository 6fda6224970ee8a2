-- How many of the places below n pass a test. The usual definition.
use Rattle.std.specs.Prelude.{ℕ, Bool, cond}
use Rattle.fx_whole.specs.Sums.{sum_ℕ_to}

abbrev pub count_to : ℕ → (ℕ → Bool) → ℕ
count_to n p = sum_ℕ_to n (λ i. cond {A = ℕ} (p i) 1 0)
