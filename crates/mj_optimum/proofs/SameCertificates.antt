-- The certificates of two problems that have the same rows.
use Rattle.std.proofs.Common.{◌≡◌, ℕ, ◌^◌, ◌<◌, ◌≤◌, ℤ, pos, ◌+ℤ◌, ◌-ℤ◌, ◌*ℤ◌, neg_ℤ, unsigned_abs, Option, ap, ap₂, ◌∙◌, arith}
use Rattle.fx_whole.proofs.SumLaws.{sum_to-ext, sum_ℕ_to-ext}
use Rattle.mj_optimum.specs.Problem.{Problem}
use Rattle.mj_optimum.specs.Cost.{gradient}
use Rattle.mj_optimum.specs.Shortfall.{bound2, fall, room, shortfall, total_shortfall}
use Rattle.mj_optimum.specs.Box.{hi, left_to, lo, rise, rise_down, rise_up}
use Rattle.mj_optimum.specs.Limits.{pull_to, shortfall_to, weight_to}
use Rattle.mj_optimum.specs.Sweep.{at_least, at_most}
use Rattle.mj_optimum.specs.Agreement.{HaveSameRows}
use Rattle.mj_optimum.proofs.SameCounts.{sum-same}
use Rattle.mj_optimum.proofs.SameSweeps.{cost-same, gradient-same}

-- ---- the bound
pub shortfall-same : (p q : Problem) (f : ℕ → ℤ) (i : ℕ) → HaveSameRows p q → i < p.m → shortfall p f i ≡ shortfall q f i
unfolding shortfall
shortfall-same p q f i s h =
    ap (λ (r : ℤ). fall (unsigned_abs (gradient p f i)) r (room (p.low i) (p.high i) (f i) (gradient p f i))) (s.regularizers i h)
    ∙ ap₂ (λ (low high : Option ℤ). fall (unsigned_abs (gradient p f i)) (q.r i) (room low high (f i) (gradient p f i))) (s.low_bounds i h) (s.high_bounds i h)
    ∙ ap (λ (g : ℤ). fall (unsigned_abs g) (q.r i) (room (q.low i) (q.high i) (f i) g)) (gradient-same p q f i s h)

pub total-same : (p q : Problem) (f : ℕ → ℤ) → HaveSameRows p q → total_shortfall p f ≡ total_shortfall q f
unfolding total_shortfall
total-same p q f s = sum-same p.m q.m (shortfall p f) (shortfall q f) s.rows (λ i h. shortfall-same p q f i s h)

pub bound-same : (p q : Problem) (f : ℕ → ℤ) → HaveSameRows p q → bound2 p f ≡ bound2 q f
bound-same p q f s = ap₂ (λ x y. x -ℤ y) (cost-same p q f (pos 1) s) (total-same p q f s)

-- ---- the box
pub left-same : (p q : Problem) (f : ℕ → ℤ) (i : ℕ) → HaveSameRows p q → i < p.m → left_to p f i ≡ left_to q f i
left-same p q f i s h = ap₂ (λ x y. x -ℤ y) (total-same p q f s) (shortfall-same p q f i s h)

pub rise_up-same : (p q : Problem) (f : ℕ → ℤ) (i : ℕ) → HaveSameRows p q → i < p.m → rise_up p f i ≡ rise_up q f i
rise_up-same p q f i s h =
    ap₂ (λ (g r : ℤ). rise g r (left_to p f i)) (gradient-same p q f i s h) (s.regularizers i h)
    ∙ ap (λ (t : ℤ). rise (gradient q f i) (q.r i) t) (left-same p q f i s h)

pub rise_down-same : (p q : Problem) (f : ℕ → ℤ) (i : ℕ) → HaveSameRows p q → i < p.m → rise_down p f i ≡ rise_down q f i
rise_down-same p q f i s h =
    ap₂ (λ (g r : ℤ). rise (neg_ℤ g) r (left_to p f i)) (gradient-same p q f i s h) (s.regularizers i h)
    ∙ ap (λ (t : ℤ). rise (neg_ℤ (gradient q f i)) (q.r i) t) (left-same p q f i s h)

pub low-same : (p q : Problem) (f : ℕ → ℤ) (i : ℕ) → HaveSameRows p q → i < p.m → lo p f i ≡ lo q f i
low-same p q f i s h = ap₂ (λ (low : Option ℤ) (k : ℕ). at_least low (f i -ℤ pos k)) (s.low_bounds i h) (rise_down-same p q f i s h)

pub high-same : (p q : Problem) (f : ℕ → ℤ) (i : ℕ) → HaveSameRows p q → i < p.m → hi p f i ≡ hi q f i
high-same p q f i s h = ap₂ (λ (high : Option ℤ) (k : ℕ). at_most high (f i +ℤ pos k)) (s.high_bounds i h) (rise_up-same p q f i s h)

-- ---- the sums that have a limit, up to a row
pub weight_to-same : (p q : Problem) (f : ℕ → ℤ) (n : ℕ) → HaveSameRows p q → n ≤ p.m → weight_to p f n ≡ weight_to q f n
weight_to-same p q f n s l =
    sum_ℕ_to-ext n (λ i. unsigned_abs (p.r i *ℤ (f i *ℤ f i))) (λ i. unsigned_abs (q.r i *ℤ (f i *ℤ f i))) (λ i h. ap (λ (r : ℤ). unsigned_abs (r *ℤ (f i *ℤ f i))) (s.regularizers i (omega arith)))

pub pull_to-same : (p q : Problem) (f : ℕ → ℤ) (n : ℕ) → HaveSameRows p q → n ≤ p.m → pull_to p f n ≡ pull_to q f n
pull_to-same p q f n s l =
    sum_ℕ_to-ext n (λ i. unsigned_abs (pos (2 ^ 37) *ℤ (p.b i *ℤ f i))) (λ i. unsigned_abs (pos (2 ^ 37) *ℤ (q.b i *ℤ f i))) (λ i h. ap (λ (b : ℤ). unsigned_abs (pos (2 ^ 37) *ℤ (b *ℤ f i))) (s.right_sides i (omega arith)))

pub shortfall_to-same : (p q : Problem) (f : ℕ → ℤ) (n : ℕ) → HaveSameRows p q → n ≤ p.m → shortfall_to p f n ≡ shortfall_to q f n
shortfall_to-same p q f n s l = sum_to-ext n (shortfall p f) (shortfall q f) (λ i h. shortfall-same p q f i s (omega arith))
