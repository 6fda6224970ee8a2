-- Sizes of the numbers that a certificate forms, where the forces are those that a solver leaves.
use Rattle.std.proofs.Common.{◌≡◌, ℕ, ◌+◌, ◌*◌, ◌^◌, ◌<◌, ◌≤◌, ℤ, pos, ◌+ℤ◌, ◌*ℤ◌, ◌≤ℤ◌, unsigned_abs, refl, sym, ap, arith, lit≤}
use Rattle.std.proofs.lemmas.Int.{ints, unsigned_abs-mul}
use Rattle.fx_whole.specs.Sums.{sum_to}
use Rattle.fx_whole.proofs.Ring.{abs-add, abs_mul_le, pos_one-*ℤ}
use Rattle.fx_whole.proofs.SumLaws.{sum_to-ext, sum_to-size, sum_to-bounded, sum_to-scale_left, sum_ℕ_to-le, sum_ℕ_to-term}
use Rattle.mj_optimum.specs.Problem.{IsRegular}
use Rattle.mj_optimum.specs.Cost.{reach, cost, gradient}
use Rattle.mj_types.specs.declared.dual.Dual.{Dual}
use Rattle.mj_types.specs.declared.dual.Forces.{Forces}
use Rattle.mj_types.specs.Duals.{entry_at, wide_at}
use Rattle.mj_types.specs.Parts.{number_at}
use Rattle.mj_types.specs.Problems.{problem, forces}
use Rattle.mj_types.specs.Solved.{IsSolved}
use Rattle.mj_cert.specs.Terms.{row_term, square_term, weight_term, pull_term}

-- ---- sums of terms
pub row-size : (d : Dual) (x : Forces) (i n : ℕ) → IsSolved d x → i < d.m → n ≤ d.nv → unsigned_abs (sum_to n (row_term d x i)) ≤ 2 ^ 109
row-size d x i n s h l =
    let sum = sum_to-bounded n (2 ^ 103) (row_term d x i) (λ k q. abs_mul_le (entry_at d.nv d.g i k) (number_at x.u k) (2 ^ 44) (2 ^ 59) (d.rows.reduced i k h (omega arith)) (s.near k (omega arith))) in
    omega (arith, sum, d.rows.few_dofs)

pub square-size : (d : Dual) (x : Forces) (n : ℕ) → IsSolved d x → n ≤ d.nv → unsigned_abs (sum_to n (square_term x)) ≤ 2 ^ 124
square-size d x n s l =
    let sum = sum_to-bounded n (2 ^ 118) (square_term x) (λ k q. abs_mul_le (number_at x.u k) (number_at x.u k) (2 ^ 59) (2 ^ 59) (s.near k (omega arith)) (s.near k (omega arith))) in
    omega (arith, sum, d.rows.few_dofs)

pub weight-size : (d : Dual) (x : Forces) (n : ℕ) → IsSolved d x → n ≤ d.m → unsigned_abs (sum_to n (weight_term d x)) ≤ 2 ^ 124
weight-size d x n s l =
    omega (arith, sum_to-size n (weight_term d x), sum_ℕ_to-le n d.m (λ i. unsigned_abs (weight_term d x i)) l, s.weight)

pub weight_term-size : (d : Dual) (x : Forces) (i : ℕ) → IsSolved d x → i < d.m → unsigned_abs (weight_term d x i) ≤ 2 ^ 124
weight_term-size d x i s h = omega (arith, sum_ℕ_to-term d.m i (λ i. unsigned_abs (weight_term d x i)) h, s.weight)

pub pull-size : (d : Dual) (x : Forces) → IsSolved d x → unsigned_abs (pos (2 ^ 37) *ℤ sum_to d.m (pull_term d x)) ≤ 2 ^ 124
pull-size d x s =
    rw (← sum_to-scale_left d.m (pos (2 ^ 37)) (pull_term d x)) (omega (arith, sum_to-size d.m (λ i. pos (2 ^ 37) *ℤ pull_term d x i), s.pull))

-- ---- one term more
abbrev pub Fits : ℕ → Type 0
Fits n = n < 2 ^ 127

pub products-fit : (n x y : ℕ) (a b : ℕ → ℤ) → n ≤ 1024 → x * y ≤ 2 ^ 116 → ((k : ℕ) → k ≤ n → unsigned_abs (a k) ≤ x) → ((k : ℕ) → k ≤ n → unsigned_abs (b k) ≤ y)
    → Fits (unsigned_abs (sum_to n (λ k. a k *ℤ b k)) + unsigned_abs (a n) * unsigned_abs (b n))
products-fit n x y a b few small ha hb =
    let sum = sum_to-bounded n (2 ^ 116) (λ k. a k *ℤ b k) (λ k q. omega (arith, abs_mul_le (a k) (b k) x y (ha k (omega arith)) (hb k (omega arith)))) in
    omega (arith, sum, unsigned_abs-mul (a n) (b n), abs_mul_le (a n) (b n) x y (ha n (omega arith)) (hb n (omega arith)))

pub row-fits : (d : Dual) (x : Forces) (i k : ℕ) → IsSolved d x → i < d.m → k < d.nv
    → Fits (unsigned_abs (sum_to k (row_term d x i)) + unsigned_abs (entry_at d.nv d.g i k) * unsigned_abs (number_at x.u k))
row-fits d x i k s h q =
    products-fit k (2 ^ 44) (2 ^ 59) (entry_at d.nv d.g i) (number_at x.u) (omega (arith, d.rows.few_dofs)) (lit≤ tt) (λ j l. d.rows.reduced i j h (omega arith)) (λ j l. s.near j (omega arith))

pub square-fits : (d : Dual) (x : Forces) (k : ℕ) → IsSolved d x → k < d.nv
    → Fits (unsigned_abs (sum_to k (square_term x)) + unsigned_abs (number_at x.u k) * unsigned_abs (number_at x.u k))
square-fits d x k s q =
    let term = abs_mul_le (number_at x.u k) (number_at x.u k) (2 ^ 59) (2 ^ 59) (s.near k q) (s.near k q) in
    omega (arith, square-size d x k s (omega arith), unsigned_abs-mul (number_at x.u k) (number_at x.u k), term)

pub weight-fits : (d : Dual) (x : Forces) (i : ℕ) → IsSolved d x → i < d.m
    → Fits (unsigned_abs (wide_at d.r i) * (unsigned_abs (number_at x.f i) * unsigned_abs (number_at x.f i)))
weight-fits d x i s q =
    rw (← unsigned_abs-mul (number_at x.f i) (number_at x.f i), ← unsigned_abs-mul (wide_at d.r i) (number_at x.f i *ℤ number_at x.f i)) (omega (arith, weight_term-size d x i s q))

pub weights-fit : (d : Dual) (x : Forces) (i : ℕ) → IsSolved d x → i < d.m → Fits (unsigned_abs (sum_to i (weight_term d x)) + unsigned_abs (weight_term d x i))
weights-fit d x i s q = omega (arith, weight-size d x i s (omega arith), weight_term-size d x i s q)

pub pull-fits : (d : Dual) (x : Forces) (i : ℕ) → IsSolved d x → i < d.m
    → Fits (unsigned_abs (sum_to i (pull_term d x)) + unsigned_abs (number_at d.b i) * unsigned_abs (number_at x.f i))
pull-fits d x i s q =
    products-fit i (2 ^ 56) (2 ^ 50) (number_at d.b) (number_at x.f) (omega (arith, d.rows.few_rows)) (lit≤ tt) (λ j l. d.rows.b_limit j (omega arith)) (λ j l. s.small j (omega arith))

pub held-size : (d : Dual) (x : Forces) (i : ℕ) → IsSolved d x → i < d.m → unsigned_abs (wide_at d.r i *ℤ number_at x.f i) ≤ 2 ^ 122
held-size d x i s q =
    let low : pos 1 ≤ℤ wide_at d.r i = d.rows.regular i q in
    let high : wide_at d.r i ≤ℤ pos (2 ^ 72) = d.rows.r_limit i q in
    abs_mul_le (wide_at d.r i) (number_at x.f i) (2 ^ 72) (2 ^ 50) (omega (arith, ints)) (s.small i q)

pub held-fits : (d : Dual) (x : Forces) (i : ℕ) → IsSolved d x → i < d.m → Fits (unsigned_abs (wide_at d.r i) * unsigned_abs (number_at x.f i))
held-fits d x i s q = omega (arith, held-size d x i s q, unsigned_abs-mul (wide_at d.r i) (number_at x.f i))

pub along-fits : (d : Dual) (x : Forces) (i : ℕ) → IsSolved d x → i < d.m
    → Fits (unsigned_abs (sum_to d.nv (row_term d x i)) + unsigned_abs (wide_at d.r i *ℤ number_at x.f i))
along-fits d x i s q = omega (arith, row-size d x i d.nv s q (omega arith), held-size d x i s q)

pub slope-fits : (d : Dual) (x : Forces) (i : ℕ) → IsSolved d x → i < d.m
    → Fits (unsigned_abs (sum_to d.nv (row_term d x i) +ℤ wide_at d.r i *ℤ number_at x.f i) + unsigned_abs (pos (2 ^ 36) *ℤ number_at d.b i))
slope-fits d x i s q =
    let pulled = abs_mul_le (pos (2 ^ 36)) (number_at d.b i) (2 ^ 36) (2 ^ 56) (omega arith) (d.rows.b_limit i q) in
    omega (arith, along-fits d x i s q, row-size d x i d.nv s q (omega arith), held-size d x i s q, abs-add (sum_to d.nv (row_term d x i)) (wide_at d.r i *ℤ number_at x.f i), pulled)

pub squares-fit : (d : Dual) (x : Forces) → IsSolved d x → Fits (unsigned_abs (sum_to d.nv (square_term x)) + unsigned_abs (sum_to d.m (weight_term d x)))
squares-fit d x s = omega (arith, square-size d x d.nv s (omega arith), weight-size d x d.m s (omega arith))

pub pulled-fits : (d : Dual) (x : Forces) → IsSolved d x → Fits (unsigned_abs (sum_to d.m (pull_term d x)) * 2 ^ 37)
pulled-fits d x s = omega (arith, pull-size d x s, unsigned_abs-mul (pos (2 ^ 37)) (sum_to d.m (pull_term d x)))

pub cost-fits : (d : Dual) (x : Forces) → IsSolved d x
    → Fits (unsigned_abs (sum_to d.nv (square_term x) +ℤ sum_to d.m (weight_term d x)) + unsigned_abs (pos (2 ^ 37) *ℤ sum_to d.m (pull_term d x)))
cost-fits d x s =
    omega (arith, square-size d x d.nv s (omega arith), weight-size d x d.m s (omega arith), abs-add (sum_to d.nv (square_term x)) (sum_to d.m (weight_term d x)), pull-size d x s)

-- ---- the gradient and the cost, by these sums
pub gradient-is : (d : Dual) (x : Forces) (i : ℕ) → IsSolved d x
    → gradient (problem d) (forces x) i ≡ (sum_to d.nv (row_term d x i) +ℤ wide_at d.r i *ℤ number_at x.f i) +ℤ pos (2 ^ 36) *ℤ number_at d.b i
unfolding gradient
gradient-is d x i s =
    ap (λ y. y +ℤ wide_at d.r i *ℤ number_at x.f i +ℤ pos (2 ^ 36) *ℤ number_at d.b i)
    (sum_to-ext d.nv (λ k. entry_at d.nv d.g i k *ℤ reach (problem d) (forces x) k) (row_term d x i) (λ k q. ap (λ y. entry_at d.nv d.g i k *ℤ y) (sym (s.reached k q))))

pub gradient-size : (d : Dual) (x : Forces) (i : ℕ) → IsSolved d x → i < d.m → unsigned_abs (gradient (problem d) (forces x) i) ≤ 2 ^ 123
gradient-size d x i s q =
    let pulled = abs_mul_le (pos (2 ^ 36)) (number_at d.b i) (2 ^ 36) (2 ^ 56) (omega arith) (d.rows.b_limit i q) in
    sized (gradient (problem d) (forces x) i) (sum_to d.nv (row_term d x i)) (wide_at d.r i *ℤ number_at x.f i) (pos (2 ^ 36) *ℤ number_at d.b i) (gradient-is d x i s) (row-size d x i d.nv s q (omega arith)) (held-size d x i s q) pulled
  where
    sized : (g a b c : ℤ) → g ≡ (a +ℤ b) +ℤ c → unsigned_abs a ≤ 2 ^ 109 → unsigned_abs b ≤ 2 ^ 122 → unsigned_abs c ≤ 2 ^ 92 → unsigned_abs g ≤ 2 ^ 123
    sized g a b c e h k l = omega (arith, ints)

pub cost-is : (d : Dual) (x : Forces) → IsSolved d x
    → cost (problem d) (forces x) (pos 1) ≡ (sum_to d.nv (square_term x) +ℤ sum_to d.m (weight_term d x)) +ℤ pos (2 ^ 37) *ℤ sum_to d.m (pull_term d x)
unfolding cost
cost-is d x s =
    joined (sum_to d.nv (λ k. reach (problem d) (forces x) k *ℤ reach (problem d) (forces x) k)) (sum_to d.nv (square_term x)) (sum_to d.m (weight_term d x)) (sum_to d.m (pull_term d x))
    (sum_to-ext d.nv (λ k. reach (problem d) (forces x) k *ℤ reach (problem d) (forces x) k) (square_term x) (λ k q. ap (λ y. y *ℤ y) (sym (s.reached k q))))
  where
    joined : (a b c e : ℤ) → a ≡ b → (a +ℤ c) +ℤ pos (2 ^ 37) *ℤ (pos 1 *ℤ e) ≡ (b +ℤ c) +ℤ pos (2 ^ 37) *ℤ e
    joined a b c e h = rw (h, pos_one-*ℤ) refl

pub cost-within : (d : Dual) (x : Forces) → IsSolved d x → unsigned_abs (cost (problem d) (forces x) (pos 1)) ≤ 3 * 2 ^ 124
cost-within d x s =
    sized (cost (problem d) (forces x) (pos 1)) (sum_to d.nv (square_term x)) (sum_to d.m (weight_term d x)) (pos (2 ^ 37) *ℤ sum_to d.m (pull_term d x)) (cost-is d x s)
    (square-size d x d.nv s (omega arith)) (weight-size d x d.m s (omega arith)) (pull-size d x s)
  where
    sized : (g a b c : ℤ) → g ≡ (a +ℤ b) +ℤ c → unsigned_abs a ≤ 2 ^ 124 → unsigned_abs b ≤ 2 ^ 124 → unsigned_abs c ≤ 2 ^ 124 → unsigned_abs g ≤ 3 * 2 ^ 124
    sized g a b c e h k l = omega (arith, ints)
