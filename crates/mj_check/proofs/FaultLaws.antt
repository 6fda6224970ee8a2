-- The fault of a block's numbers is the same for whatever problem, places and numbers its lines tell.
use Rattle.std.proofs.Common.{◌≡◌, ℕ, suc, ◌+◌, ◌^◌, ◌<◌, ◌≤◌, ℤ, pos, ◌+ℤ◌, ◌-ℤ◌, ◌*ℤ◌, neg_ℤ, unsigned_abs, ◌&&◌, is_none, Option, ap, ap₂, ◌∙◌, arith}
use Rattle.fx_whole.specs.First.{or_first}
use Rattle.fx_whole.proofs.SumLaws.{sum_to-ext, sum_ℕ_to-ext}
use Rattle.mj_optimum.specs.Problem.{Problem}
use Rattle.mj_optimum.specs.Cost.{reach, cost, gradient}
use Rattle.mj_optimum.specs.Shortfall.{bound2, fall, room, shortfall, total_shortfall}
use Rattle.mj_optimum.specs.Box.{hi, left_to, lo, rise, rise_down, rise_up}
use Rattle.mj_optimum.specs.Limits.{cost_limit, box_limit, shortfall_limit, reach_limit, pull_to, shortfall_to, weight_to, where_open}
use Rattle.mj_optimum.specs.Sweep.{at_least, at_most}
use Rattle.mj_optimum.specs.Agreement.{HaveSameRows}
use Rattle.mj_optimum.proofs.SameCounts.{first-same}
use Rattle.mj_optimum.proofs.SameSweeps.{cost-same, reach-same}
use Rattle.mj_optimum.proofs.SameCertificates.{bound-same, low-same, high-same, rise_up-same, rise_down-same, weight_to-same, pull_to-same, shortfall_to-same}
use Rattle.mj_types.specs.declared.range.Quantity.TheVariants as kind
use Rattle.mj_types.specs.declared.verdict.Reason.TheVariants as reason
use Rattle.mj_types.specs.Ranges.{limited}
use Rattle.mj_cert.specs.Certificate.{shortfall_fault, box_fault as cert_box_fault}
use Rattle.mj_cost.specs.Costs.{cost_fault}
use Rattle.mj_check.specs.Numbers.{unless, is_above, is_below, is_feasible, is_same, is_boxed, reach_fault, numbers_out, Printed, force_fault, box_fault, numbers_fault, row_line}

-- ---- of forces that agree in a problem's rows
module _ (p : Problem) (f g : ℕ → ℤ) (h : (i : ℕ) → i < p.m → f i ≡ g i) where
  reach-over : (k : ℕ) → reach p f k ≡ reach p g k
  reach-over k = sum_to-ext p.m (λ i. p.g i k *ℤ f i) (λ i. p.g i k *ℤ g i) (λ i l. ap (λ x. p.g i k *ℤ x) (h i l))

  cost-over : (d : ℤ) → cost p f d ≡ cost p g d
  unfolding cost
  cost-over d =
      ap₂ (λ x y. x +ℤ y)
      (ap₂ (λ x y. x +ℤ y)
      (sum_to-ext p.nv (λ k. reach p f k *ℤ reach p f k) (λ k. reach p g k *ℤ reach p g k) (λ k l. ap (λ x. x *ℤ x) (reach-over k)))
      (sum_to-ext p.m (λ i. p.r i *ℤ (f i *ℤ f i)) (λ i. p.r i *ℤ (g i *ℤ g i)) (λ i l. ap (λ x. p.r i *ℤ (x *ℤ x)) (h i l))))
      (ap (λ x. pos (2 ^ 37) *ℤ (d *ℤ x)) (sum_to-ext p.m (λ i. p.b i *ℤ f i) (λ i. p.b i *ℤ g i) (λ i l. ap (λ x. p.b i *ℤ x) (h i l))))

  gradient-over : (i : ℕ) → i < p.m → gradient p f i ≡ gradient p g i
  unfolding gradient
  gradient-over i l =
      ap₂ (λ x y. x +ℤ p.r i *ℤ y +ℤ pos (2 ^ 36) *ℤ p.b i)
      (sum_to-ext p.nv (λ k. p.g i k *ℤ reach p f k) (λ k. p.g i k *ℤ reach p g k) (λ k l. ap (λ x. p.g i k *ℤ x) (reach-over k)))
      (h i l)

  shortfall-over : (i : ℕ) → i < p.m → shortfall p f i ≡ shortfall p g i
  unfolding shortfall
  shortfall-over i l = ap₂ (λ (x : ℤ) (s : ℤ). fall (unsigned_abs s) (p.r i) (room (p.low i) (p.high i) x s)) (h i l) (gradient-over i l)

  total-over : total_shortfall p f ≡ total_shortfall p g
  unfolding total_shortfall
  total-over = sum_to-ext p.m (shortfall p f) (shortfall p g) shortfall-over

  bound-over : bound2 p f ≡ bound2 p g
  bound-over = ap₂ (λ x y. x -ℤ y) (cost-over (pos 1)) total-over

  left-over : (i : ℕ) → i < p.m → left_to p f i ≡ left_to p g i
  left-over i l = ap₂ (λ x y. x -ℤ y) total-over (shortfall-over i l)

  rise_up-over : (i : ℕ) → i < p.m → rise_up p f i ≡ rise_up p g i
  rise_up-over i l = ap₂ (λ (s t : ℤ). rise s (p.r i) t) (gradient-over i l) (left-over i l)

  rise_down-over : (i : ℕ) → i < p.m → rise_down p f i ≡ rise_down p g i
  rise_down-over i l = ap₂ (λ (s t : ℤ). rise (neg_ℤ s) (p.r i) t) (gradient-over i l) (left-over i l)

  low-over : (i : ℕ) → i < p.m → lo p f i ≡ lo p g i
  low-over i l = ap₂ (λ (x : ℤ) (k : ℕ). at_least (p.low i) (x -ℤ pos k)) (h i l) (rise_down-over i l)

  high-over : (i : ℕ) → i < p.m → hi p f i ≡ hi p g i
  high-over i l = ap₂ (λ (x : ℤ) (k : ℕ). at_most (p.high i) (x +ℤ pos k)) (h i l) (rise_up-over i l)

  weight-over : (n : ℕ) → n ≤ p.m → weight_to p f n ≡ weight_to p g n
  weight-over n l = sum_ℕ_to-ext n (λ i. unsigned_abs (p.r i *ℤ (f i *ℤ f i))) (λ i. unsigned_abs (p.r i *ℤ (g i *ℤ g i))) (λ i q. ap (λ x. unsigned_abs (p.r i *ℤ (x *ℤ x))) (h i (omega arith)))

  pull-over : (n : ℕ) → n ≤ p.m → pull_to p f n ≡ pull_to p g n
  pull-over n l = sum_ℕ_to-ext n (λ i. unsigned_abs (pos (2 ^ 37) *ℤ (p.b i *ℤ f i))) (λ i. unsigned_abs (pos (2 ^ 37) *ℤ (p.b i *ℤ g i))) (λ i q. ap (λ x. unsigned_abs (pos (2 ^ 37) *ℤ (p.b i *ℤ x))) (h i (omega arith)))

  fallen-over : (n : ℕ) → n ≤ p.m → shortfall_to p f n ≡ shortfall_to p g n
  fallen-over n l = sum_to-ext n (shortfall p f) (shortfall p g) (λ i q. shortfall-over i (omega arith))

-- ---- what two readings of the same lines have in common
pub record HaveSameNumbers (p q : Problem) (here there : ℕ → ℕ) (x y : Printed) : Type 0 where
  pub rows : HaveSameRows p q
  pub place : (i : ℕ) → i < p.m → here i ≡ there i
  pub f : (i : ℕ) → i < p.m → x.f i ≡ y.f i
  pub cost : x.cost ≡ y.cost
  pub bound : x.bound ≡ y.bound
  pub lo : (i : ℕ) → i < p.m → x.lo i ≡ y.lo i
  pub hi : (i : ℕ) → i < p.m → x.hi i ≡ y.hi i

module _ (p q : Problem) (place at : ℕ → ℕ) (x y : Printed) (s : HaveSameNumbers p q place at x y) where
  line-same : (first : ℕ) (i : ℕ) → i < p.m → row_line first place i ≡ row_line first at i
  line-same first i l = ap (λ (n : ℕ). first + n) (s.place i l)

  feasible-same : (i : ℕ) → i < p.m → is_feasible p x.f i ≡ is_feasible q y.f i
  feasible-same i l =
      ap₂ (λ (b : Option ℤ) (v : ℤ). is_above b v && is_below (p.high i) v) (s.rows.low_bounds i l) (s.f i l)
      ∙ ap (λ (b : Option ℤ). is_above (q.low i) (y.f i) && is_below b (y.f i)) (s.rows.high_bounds i l)

  force-same : (first : ℕ) (i : ℕ) → i < p.m → force_fault p x.f (row_line first place) i ≡ force_fault q y.f (row_line first at) i
  force-same first i l = ap₂ (λ b n. unless b n reason.Feasible) (feasible-same i l) (line-same first i l)

  reached-same : (k : ℕ) → k < p.nv → reach_fault p x.f k ≡ reach_fault q y.f k
  reached-same k l = ap (limited kind.Reach (k + 1) reach_limit) (reach-over p x.f y.f s.f k ∙ reach-same p q y.f k s.rows l)

  sums-same : (i : ℕ) → i < p.m → cost_fault p place x.f i ≡ cost_fault q at y.f i
  unfolding cost_fault
  sums-same i l =
      let n : i + 1 ≤ p.m = omega arith in
      ap₂ (λ a b. or_first a b)
      (ap₂ (λ (j : ℕ) (w : ℕ). limited kind.Cost j cost_limit (pos w)) (s.place i l) (weight-over p x.f y.f s.f (i + 1) n ∙ weight_to-same p q y.f (i + 1) s.rows n))
      (ap₂ (λ (j : ℕ) (w : ℕ). limited kind.Cost j cost_limit (pos w)) (s.place i l) (pull-over p x.f y.f s.f (i + 1) n ∙ pull_to-same p q y.f (i + 1) s.rows n))

  short-same : (i : ℕ) → i < p.m → shortfall_fault p place x.f i ≡ shortfall_fault q at y.f i
  short-same i l =
      let n : suc i ≤ p.m = omega arith in
      ap₂ (λ (j : ℕ) (w : ℤ). limited kind.Shortfall j shortfall_limit w) (s.place i l) (fallen-over p x.f y.f s.f (suc i) n ∙ shortfall_to-same p q y.f (suc i) s.rows n)

  risen-same : (i : ℕ) → i < p.m → cert_box_fault p place x.f i ≡ cert_box_fault q at y.f i
  risen-same i l =
      ap₂ (λ a b. or_first a b)
      (ap₂ (λ (j : ℕ) (w : ℕ). limited kind.Box j box_limit (pos w)) (s.place i l)
      (ap₂ (λ (b : Option ℤ) (k : ℕ). where_open b k) (s.rows.high_bounds i l) (rise_up-over p x.f y.f s.f i l ∙ rise_up-same p q y.f i s.rows l)))
      (ap₂ (λ (j : ℕ) (w : ℕ). limited kind.Box j box_limit (pos w)) (s.place i l)
      (ap₂ (λ (b : Option ℤ) (k : ℕ). where_open b k) (s.rows.low_bounds i l) (rise_down-over p x.f y.f s.f i l ∙ rise_down-same p q y.f i s.rows l)))

  out-same : numbers_out p place x.f ≡ numbers_out q at y.f
  out-same =
      ap₂ (λ a b. or_first a b) (first-same p.nv q.nv (reach_fault p x.f) (reach_fault q y.f) s.rows.dofs reached-same)
      (ap₂ (λ a b. or_first a b) (first-same p.m q.m (cost_fault p place x.f) (cost_fault q at y.f) s.rows.rows sums-same)
      (ap₂ (λ a b. or_first a b)
      (first-same p.m q.m (shortfall_fault p place x.f) (shortfall_fault q at y.f) s.rows.rows short-same)
      (first-same p.m q.m (cert_box_fault p place x.f) (cert_box_fault q at y.f) s.rows.rows risen-same)))

  boxed-same : (i : ℕ) → i < p.m → is_boxed p x i ≡ is_boxed q y i
  boxed-same i l =
      ap₂ (λ a b. a && b)
      (ap₂ (λ a b. is_same a b) (s.lo i l) (low-over p x.f y.f s.f i l ∙ low-same p q y.f i s.rows l))
      (ap₂ (λ a b. is_same a b) (s.hi i l) (high-over p x.f y.f s.f i l ∙ high-same p q y.f i s.rows l))

  box-same : (first : ℕ) (i : ℕ) → i < p.m → box_fault p x (row_line first place) i ≡ box_fault q y (row_line first at) i
  box-same first i l = ap₂ (λ b n. unless b n reason.Box) (boxed-same i l) (line-same first i l)

  pub fault-same : (first cost_line : ℕ) → numbers_fault p place x first cost_line ≡ numbers_fault q at y first cost_line
  fault-same first cost_line =
      ap₂ (λ a b. or_first a b)
      (first-same p.m q.m (force_fault p x.f (row_line first place)) (force_fault q y.f (row_line first at)) s.rows.rows (force-same first))
      (ap₂ (λ a b. or_first a b)
      (ap (λ o. unless (is_none o) cost_line reason.Limit) out-same)
      (ap₂ (λ a b. or_first a b)
      (ap (λ b. unless b cost_line reason.Cost) (ap₂ (λ a b. is_same a b) s.cost (cost-over p x.f y.f s.f (pos 1) ∙ cost-same p q y.f (pos 1) s.rows)))
      (ap₂ (λ a b. or_first a b)
      (ap (λ b. unless b cost_line reason.Bound) (ap₂ (λ a b. is_same a b) s.bound (bound-over p x.f y.f s.f ∙ bound-same p q y.f s.rows)))
      (first-same p.m q.m (box_fault p x (row_line first place)) (box_fault q y (row_line first at)) s.rows.rows (box-same first)))))
