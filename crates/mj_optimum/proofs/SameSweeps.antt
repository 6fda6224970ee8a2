-- The cost and the sweeps of two problems that have the same rows.
use Rattle.std.proofs.Common.{◌≡◌, ℕ, zero, suc, ◌^◌, ◌==◌, ◌<◌, ◌≤◌, ℤ, pos, ◌+ℤ◌, ◌-ℤ◌, ◌*ℤ◌, cond, Option, Some, None, refl, sym, ap, ap₂, ◌∙◌, arith}
use Rattle.std.specs.Prelude.{int_le}
use Rattle.fx_whole.specs.Sums.{sum_to}
use Rattle.fx_whole.proofs.FirstLaws.{first_ext}
use Rattle.mj_optimum.specs.Problem.{Problem}
use Rattle.mj_optimum.specs.Cost.{reach, cost, gradient}
use Rattle.mj_optimum.specs.Sweep.{after_update, divisor, drop_of, iterate, next_force, pass, put_at, sweep, update}
use Rattle.mj_optimum.specs.Stop.{or_limit, stop_after, stop_of}
use Rattle.mj_optimum.specs.declared.stop.Stop.{Stop}
use Rattle.mj_optimum.specs.declared.stop.Stop.TheVariants.{NoRows, Tolerance}
use Rattle.mj_optimum.specs.Agreement.{HaveSameRows}
use Rattle.mj_optimum.proofs.SameCounts.{sum-same}

-- ---- the rows of one are those of the other
pub row-over : (p q : Problem) (i : ℕ) → HaveSameRows p q → i < q.m → i < p.m
row-over p q i s h = omega (arith, s.rows)

dof-over : (p q : Problem) (k : ℕ) → HaveSameRows p q → k < q.nv → k < p.nv
dof-over p q k s h = omega (arith, s.dofs)

pub turned : (p q : Problem) → HaveSameRows p q → HaveSameRows q p
turned p q s = record {
  rows = sym s.rows;
  dofs = sym s.dofs;
  numbers = λ i k h l. sym (s.numbers i k (row-over p q i s h) (dof-over p q k s l));
  regularizers = λ i h. sym (s.regularizers i (row-over p q i s h));
  right_sides = λ i h. sym (s.right_sides i (row-over p q i s h));
  low_bounds = λ i h. sym (s.low_bounds i (row-over p q i s h));
  high_bounds = λ i h. sym (s.high_bounds i (row-over p q i s h));
}

-- ---- the cost and its gradient
pub reach-same : (p q : Problem) (f : ℕ → ℤ) (k : ℕ) → HaveSameRows p q → k < p.nv → reach p f k ≡ reach q f k
reach-same p q f k s l = sum-same p.m q.m (λ i. p.g i k *ℤ f i) (λ i. q.g i k *ℤ f i) s.rows (λ i h. ap (λ x. x *ℤ f i) (s.numbers i k h l))

pub cost-same : (p q : Problem) (n : ℕ → ℤ) (d : ℤ) → HaveSameRows p q → cost p n d ≡ cost q n d
unfolding cost
cost-same p q n d s = ap₂ (λ x y. x +ℤ y) (ap₂ (λ x y. x +ℤ y) squares weights) (ap (λ x. pos (2 ^ 37) *ℤ (d *ℤ x)) pulls)
  where
    squares : sum_to p.nv (λ k. reach p n k *ℤ reach p n k) ≡ sum_to q.nv (λ k. reach q n k *ℤ reach q n k)
    squares = sum-same p.nv q.nv (λ k. reach p n k *ℤ reach p n k) (λ k. reach q n k *ℤ reach q n k) s.dofs (λ k l. ap (λ x. x *ℤ x) (reach-same p q n k s l))

    weights : sum_to p.m (λ i. p.r i *ℤ (n i *ℤ n i)) ≡ sum_to q.m (λ i. q.r i *ℤ (n i *ℤ n i))
    weights = sum-same p.m q.m (λ i. p.r i *ℤ (n i *ℤ n i)) (λ i. q.r i *ℤ (n i *ℤ n i)) s.rows (λ i h. ap (λ x. x *ℤ (n i *ℤ n i)) (s.regularizers i h))

    pulls : sum_to p.m (λ i. p.b i *ℤ n i) ≡ sum_to q.m (λ i. q.b i *ℤ n i)
    pulls = sum-same p.m q.m (λ i. p.b i *ℤ n i) (λ i. q.b i *ℤ n i) s.rows (λ i h. ap (λ x. x *ℤ n i) (s.right_sides i h))

pub gradient-same : (p q : Problem) (f : ℕ → ℤ) (i : ℕ) → HaveSameRows p q → i < p.m → gradient p f i ≡ gradient q f i
unfolding gradient
gradient-same p q f i s h = ap₂ (λ x y. x +ℤ y) (ap₂ (λ x y. x +ℤ y) along (ap (λ x. x *ℤ f i) (s.regularizers i h))) (ap (λ x. pos (2 ^ 36) *ℤ x) (s.right_sides i h))
  where
    along : sum_to p.nv (λ k. p.g i k *ℤ reach p f k) ≡ sum_to q.nv (λ k. q.g i k *ℤ reach q f k)
    along = sum-same p.nv q.nv (λ k. p.g i k *ℤ reach p f k) (λ k. q.g i k *ℤ reach q f k) s.dofs (λ k l. ap₂ (λ x y. x *ℤ y) (s.numbers i k h l) (reach-same p q f k s l))

-- ---- the sweeps
pub divisor-same : (p q : Problem) (i : ℕ) → HaveSameRows p q → i < p.m → divisor p i ≡ divisor q i
divisor-same p q i s h = ap₂ (λ x y. x +ℤ y) squares (s.regularizers i h)
  where
    squares : sum_to p.nv (λ k. p.g i k *ℤ p.g i k) ≡ sum_to q.nv (λ k. q.g i k *ℤ q.g i k)
    squares = sum-same p.nv q.nv (λ k. p.g i k *ℤ p.g i k) (λ k. q.g i k *ℤ q.g i k) s.dofs (λ k l. ap (λ x. x *ℤ x) (s.numbers i k h l))

pub update-same : (p q : Problem) (f : ℕ → ℤ) (i : ℕ) → HaveSameRows p q → i < p.m → update p f i ≡ update q f i
update-same p q f i s h =
    ap (λ low. next_force low (p.high i) (divisor p i) (f i) (gradient p f i)) (s.low_bounds i h)
    ∙ ap (λ high. next_force (q.low i) high (divisor p i) (f i) (gradient p f i)) (s.high_bounds i h)
    ∙ ap₂ (λ d g. next_force (q.low i) (q.high i) d (f i) g) (divisor-same p q i s h) (gradient-same p q f i s h)

pub put-same : (p q : Problem) (f : ℕ → ℤ) (i : ℕ) → HaveSameRows p q → i < p.m → after_update p f i ≡ after_update q f i
put-same p q f i s h = ap (λ (x : ℤ). put_at f i x) (update-same p q f i s h)

pub pass-same : (p q : Problem) (f : ℕ → ℤ) (n : ℕ) → HaveSameRows p q → n ≤ p.m → pass p f n ≡ pass q f n
pass-same p q f zero s h = refl
pass-same p q f (suc n) s h = put-same p q (pass p f n) n s h ∙ ap (λ (f : ℕ → ℤ). after_update q f n) (pass-same p q f n s (omega arith))

pub sweep-same : (p q : Problem) (f : ℕ → ℤ) → HaveSameRows p q → sweep p f ≡ sweep q f
sweep-same p q f s = pass-same p q f p.m s (omega arith) ∙ ap (λ (n : ℕ). pass q f n) s.rows

pub iterate-same : (p q : Problem) (n : ℕ) → HaveSameRows p q → iterate p n ≡ iterate q n
unfolding iterate
iterate-same p q zero s = refl
iterate-same p q (suc n) s = sweep-same p q (iterate p n) s ∙ ap (λ (f : ℕ → ℤ). sweep q f) (iterate-same p q n s)

cost_after-same : (p q : Problem) (n : ℕ) → HaveSameRows p q → cost p (iterate p n) (pos 1) ≡ cost q (iterate q n) (pos 1)
cost_after-same p q n s = cost-same p q (iterate p n) (pos 1) s ∙ ap (λ (f : ℕ → ℤ). cost q f (pos 1)) (iterate-same p q n s)

pub drop-same : (p q : Problem) (n : ℕ) → HaveSameRows p q → drop_of p n ≡ drop_of q n
drop-same p q n s = ap₂ (λ x y. x -ℤ y) (cost_after-same p q n s) (cost_after-same p q (suc n) s)

-- ---- when they stop
pub stop_after-same : (p q : Problem) (tolerance : ℤ) (n : ℕ) → HaveSameRows p q → stop_after p tolerance n ≡ stop_after q tolerance n
stop_after-same p q tolerance n s = ap (λ x. cond (int_le x (tolerance *ℤ pos (2 ^ 56))) (Some (Tolerance (suc n))) None) (drop-same p q n s)

pub stop-same : (p q : Problem) (tolerance : ℤ) (limit : ℕ) → HaveSameRows p q → stop_of p tolerance limit ≡ stop_of q tolerance limit
stop-same p q tolerance limit s =
    ap₂ (λ (m : ℕ) (x : Option Stop). cond (m == 0) NoRows (or_limit x limit)) s.rows (first_ext limit (stop_after p tolerance) (stop_after q tolerance) (λ n _. stop_after-same p q tolerance n s))
