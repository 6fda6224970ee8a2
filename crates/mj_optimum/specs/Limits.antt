-- How large the numbers of a solver and of its certificate may be. This project's own.
use Rattle.std.specs.Prelude.{ℕ, ◌^◌, ℤ, pos, ◌*ℤ◌, unsigned_abs, Option, Some, None}
use Rattle.fx_whole.specs.Sums.{sum_to, sum_ℕ_to}
use Rattle.mj_optimum.specs.Problem.{Problem}
use Rattle.mj_optimum.specs.Shortfall.{shortfall}

-- a force after its update, raw, and then each number of u
abbrev pub force_limit : ℕ
force_limit = 2 ^ 50

abbrev pub reach_limit : ℕ
reach_limit = 2 ^ 59

-- after a sweep, for each n: the sum of R f^2 over the first n rows, and that of 2^37 b f in size
abbrev pub cost_limit : ℕ
cost_limit = 2 ^ 124

abbrev pub weight_to : Problem → (ℕ → ℤ) → ℕ → ℕ
weight_to p f n = sum_ℕ_to n (λ i. unsigned_abs (p.r i *ℤ (f i *ℤ f i)))

abbrev pub pull_to : Problem → (ℕ → ℤ) → ℕ → ℕ
pull_to p f n = sum_ℕ_to n (λ i. unsigned_abs (pos (2 ^ 37) *ℤ (p.b i *ℤ f i)))

-- for each n: the sum of the shortfalls of the first n rows
abbrev pub shortfall_limit : ℕ
shortfall_limit = 2 ^ 124

abbrev pub shortfall_to : Problem → (ℕ → ℤ) → ℕ → ℤ
shortfall_to p f n = sum_to n (shortfall p f)

-- how far the box goes up in a row without a high bound, and down in one without a low bound; where there is the bound, the box ends there
abbrev pub box_limit : ℕ
box_limit = 2 ^ 50

abbrev pub where_open : Option ℤ → ℕ → ℕ
where_open None rise = rise
where_open (Some bound) rise = 0
