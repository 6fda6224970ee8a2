-- The cost of a rational force, and its gradient. MuJoCo documentation, Computation chapter: 1/2 f (A + R) f + f b with A = G G^T.
use Rattle.std.specs.Prelude.{ℕ, ◌^◌, ℤ, pos, ◌+ℤ◌, ◌*ℤ◌}
use Rattle.fx_whole.specs.Sums.{sum_to}
use Rattle.mj_optimum.specs.Problem.{Problem}

-- u = G^T n, at dof k
abbrev pub reach : Problem → (ℕ → ℤ) → ℕ → ℤ
reach p n k = sum_to p.m (λ i. p.g i k *ℤ n i)

-- twice the cost of the force n / d, times d^2, at 2^-88: the sum of u^2, of R n^2, and of 2^37 d b n
unfoldable pub cost : Problem → (ℕ → ℤ) → ℤ → ℤ
cost p n d =
    sum_to p.nv (λ k. reach p n k *ℤ reach p n k)
    +ℤ sum_to p.m (λ i. p.r i *ℤ (n i *ℤ n i))
    +ℤ pos (2 ^ 37) *ℤ (d *ℤ sum_to p.m (λ i. p.b i *ℤ n i))

-- the slope of that cost along row i, halved, at 2^-68: row i of (A + R) f + b
unfoldable pub gradient : Problem → (ℕ → ℤ) → ℕ → ℤ
gradient p f i = sum_to p.nv (λ k. p.g i k *ℤ reach p f k) +ℤ p.r i *ℤ f i +ℤ pos (2 ^ 36) *ℤ p.b i
