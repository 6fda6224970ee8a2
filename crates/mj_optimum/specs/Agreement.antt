-- When two problems are one: a problem is what it holds of its rows and dofs, and no more. This project's own.
use Rattle.std.specs.Prelude.{◌≡◌, ℕ, ◌<◌}
use Rattle.mj_optimum.specs.Problem.{Problem}

-- as many rows and dofs, and the same numbers of each
pub record HaveSameRows (p q : Problem) : Type 0 where
  pub rows : p.m ≡ q.m
  pub dofs : p.nv ≡ q.nv
  pub numbers : (i k : ℕ) → i < p.m → k < p.nv → p.g i k ≡ q.g i k
  pub regularizers : (i : ℕ) → i < p.m → p.r i ≡ q.r i
  pub right_sides : (i : ℕ) → i < p.m → p.b i ≡ q.b i
  pub low_bounds : (i : ℕ) → i < p.m → p.low i ≡ q.low i
  pub high_bounds : (i : ℕ) → i < p.m → p.high i ≡ q.high i
