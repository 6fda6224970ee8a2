-- The terms of the sums that a certificate forms, from the lists of a dual and of its forces.
use Rattle.std.specs.Prelude.{ℕ, ℤ, ◌*ℤ◌}
use Rattle.mj_types.specs.declared.dual.Dual.{Dual}
use Rattle.mj_types.specs.declared.dual.Forces.{Forces}
use Rattle.mj_types.specs.Duals.{entry_at, wide_at}
use Rattle.mj_types.specs.Parts.{number_at}

-- of row i times u, at dof k
abbrev pub row_term : Dual → Forces → ℕ → ℕ → ℤ
row_term d x i k = entry_at d.nv d.g i k *ℤ number_at x.u k

-- of the squares of u
abbrev pub square_term : Forces → ℕ → ℤ
square_term x k = number_at x.u k *ℤ number_at x.u k

-- of R f^2 and of b f, at row i
abbrev pub weight_term : Dual → Forces → ℕ → ℤ
weight_term d x i = wide_at d.r i *ℤ (number_at x.f i *ℤ number_at x.f i)

abbrev pub pull_term : Dual → Forces → ℕ → ℤ
pull_term d x i = number_at d.b i *ℤ number_at x.f i
