-- How large a cost can be, by the sums that are limited.
use Rattle.std.proofs.Common.{◌≡◌, ℕ, ◌^◌, ◌<◌, ◌≤◌, ℤ, pos, ◌+ℤ◌, ◌*ℤ◌, neg_ℤ, ◌<ℤ◌, ◌≤ℤ◌, unsigned_abs, arith}
use Rattle.std.proofs.lemmas.Int.{ints}
use Rattle.fx_whole.specs.Sums.{sum_to}
use Rattle.fx_whole.proofs.Ring.{mul_nonneg, square_nonneg}
use Rattle.fx_whole.proofs.SumLaws.{sum_to-nonneg, sum_to-scale_left, sum_to-size}
use Rattle.mj_optimum.specs.Problem.{Problem, IsRegular}
use Rattle.mj_optimum.specs.Cost.{reach, cost}
use Rattle.mj_optimum.specs.Limits.{pull_to}

pull_size : (p : Problem) (f : ℕ → ℤ) → unsigned_abs (pos (2 ^ 37) *ℤ (pos 1 *ℤ sum_to p.m (λ i. p.b i *ℤ f i))) ≤ pull_to p f p.m
pull_size p f = rw (one (sum_to p.m (λ i. p.b i *ℤ f i)), ← sum_to-scale_left p.m (pos (2 ^ 37)) (λ i. p.b i *ℤ f i)) (sum_to-size p.m (λ i. pos (2 ^ 37) *ℤ (p.b i *ℤ f i)))
  where
    one : (x : ℤ) → pos 1 *ℤ x ≡ x
    one x = omega (arith, ints)

-- squares and weights aren't negative
pub cost_at_least : (p : Problem) (f : ℕ → ℤ) → IsRegular p → neg_ℤ (pos (pull_to p f p.m)) ≤ℤ cost p f (pos 1)
unfolding cost
cost_at_least p f regular =
    let squares : pos 0 ≤ℤ sum_to p.nv (λ k. reach p f k *ℤ reach p f k) = sum_to-nonneg p.nv (λ k. reach p f k *ℤ reach p f k) (λ k h. square_nonneg (reach p f k)) in
    let weights : pos 0 ≤ℤ sum_to p.m (λ i. p.r i *ℤ (f i *ℤ f i)) = sum_to-nonneg p.m (λ i. p.r i *ℤ (f i *ℤ f i)) weight in
    low (sum_to p.nv (λ k. reach p f k *ℤ reach p f k)) (sum_to p.m (λ i. p.r i *ℤ (f i *ℤ f i))) (pos (2 ^ 37) *ℤ (pos 1 *ℤ sum_to p.m (λ i. p.b i *ℤ f i))) (pull_to p f p.m) squares weights (pull_size p f)
  where
    weight : (i : ℕ) → i < p.m → pos 0 ≤ℤ (p.r i *ℤ (f i *ℤ f i))
    weight i h = let r : pos 0 <ℤ p.r i = regular i h in mul_nonneg (p.r i) (f i *ℤ f i) (omega (arith, ints)) (square_nonneg (f i))

    low : (x y z : ℤ) (n : ℕ) → pos 0 ≤ℤ x → pos 0 ≤ℤ y → unsigned_abs z ≤ n → neg_ℤ (pos n) ≤ℤ (x +ℤ y +ℤ z)
    low x y z n h k l = omega (arith, ints)
