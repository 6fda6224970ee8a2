-- The laws of the sweeps: each force stays within its bounds, and no sweep raises the cost.
use Rattle.std.proofs.Common.{◌≡◌, ◌≢◌, ℕ, zero, suc, ◌+◌, ◌*◌, ◌<◌, ◌≤◌, ℤ, pos, ◌+ℤ◌, ◌-ℤ◌, ◌*ℤ◌, neg_ℤ, ◌<ℤ◌, ◌≤ℤ◌, unsigned_abs, cond, Option, Some, refl, sym, ap, ◌∙◌, subst, arith, add-one, inl, inr}
use Rattle.std.proofs.Math.Path.{fun_ext}
use Rattle.std.proofs.lemmas.Int.{ints, by_lt_z}
use Rattle.std.proofs.lemmas.Bool.{cases_eq, eq-eqb, ne_eqb}
use lib.IntN.{zero-*ℤ, *ℤ-zero, *ℤ_comm}
use Rattle.fx_whole.specs.Sums.{sum_to}
use Rattle.fx_whole.specs.Nearest.{nearest, IsNearest}
use Rattle.fx_whole.proofs.NearestLaws.{nearest-is_nearest, nearest-mono, nearest-none, nearest-zero}
use Rattle.fx_whole.proofs.Ring.{ring, mul_mono, mul_nonneg, *ℤ-neg_ℤ, neg_ℤ-*ℤ}
use Rattle.fx_whole.proofs.SumLaws.{sum_to-ext, sum_to-single, sum_to-scale_right}
use Rattle.mj_optimum.specs.Problem.{Problem}
use Rattle.mj_optimum.specs.Cost.{reach, cost, gradient}
use Rattle.mj_optimum.specs.Feasible.{IsAbove, IsBelow, IsFeasible, HoldsZero}
use Rattle.mj_optimum.specs.Enclosure.{away, parabola}
use Rattle.mj_optimum.specs.Sweep.{at_most, divisor, next_force, update, put_at, after_update, pass, sweep, iterate, drop_of, change, row_change, LiesBetween}
use Rattle.mj_optimum.proofs.ClampLaws.{clamp_above, clamp_below, clamp_between, at_least_low, at_most_rests}
use Rattle.mj_optimum.proofs.CostLaws.{cost_expands, cost_of_zero, reach_ext, reach_sum}

-- ---- one force put in place
pub put_at_same : (f : ℕ → ℤ) (i : ℕ) (x : ℤ) (j : ℕ) → j ≡ i → put_at f i x j ≡ x
put_at_same f i x j e = ap (λ b. cond b x (f j)) (eq-eqb j i e)

pub put_at_other : (f : ℕ → ℤ) (i : ℕ) (x : ℤ) (j : ℕ) → j ≢ i → put_at f i x j ≡ f j
put_at_other f i x j e = ap (λ b. cond b x (f j)) (ne_eqb j i e)

-- a force put where it stands changes nothing
pub put_at_own : (f : ℕ → ℤ) (i : ℕ) → put_at f i (f i) ≡ f
put_at_own f i = fun_ext (λ j. elim (cases_eq j i) [ inl e ↦ put_at_same f i (f i) j e ∙ ap f (sym e) | inr e ↦ put_at_other f i (f i) j e ])

gap : (x y : ℤ) → x ≡ y → x -ℤ pos 1 *ℤ y ≡ pos 0
gap x y e = omega (arith, ints)

one_gap : (x y z : ℤ) → z ≡ x → z -ℤ pos 1 *ℤ y ≡ x -ℤ y
one_gap x y z e = omega (arith, ints)

away_other : (f : ℕ → ℤ) (i : ℕ) (x : ℤ) (j : ℕ) → j ≢ i → away (put_at f i x) (pos 1) f j ≡ pos 0
away_other f i x j e = gap (put_at f i x j) (f j) (put_at_other f i x j e)

away_same : (f : ℕ → ℤ) (i : ℕ) (x : ℤ) → away (put_at f i x) (pos 1) f i ≡ x -ℤ f i
away_same f i x = one_gap x (f i) (put_at f i x i) (put_at_same f i x i refl)

away_reach : (p : Problem) (f : ℕ → ℤ) (i : ℕ) (x : ℤ) (k : ℕ) → i < p.m → reach p (away (put_at f i x) (pos 1) f) k ≡ p.g i k *ℤ (x -ℤ f i)
away_reach p f i x k h =
    sum_to-single p.m i (λ j. p.g j k *ℤ away (put_at f i x) (pos 1) f j) h (λ j q e. ap (λ y. p.g j k *ℤ y) (away_other f i x j e) ∙ *ℤ-zero (p.g j k))
    ∙ ap (λ y. p.g i k *ℤ y) (away_same f i x)

-- u moves along the row
pub reach_put : (p : Problem) (f : ℕ → ℤ) (i : ℕ) (x : ℤ) (k : ℕ) → i < p.m → reach p (put_at f i x) k ≡ reach p f k +ℤ p.g i k *ℤ (x -ℤ f i)
reach_put p f i x k h =
    reach_ext p (put_at f i x) (λ j. away (put_at f i x) (pos 1) f j +ℤ pos 1 *ℤ f j) k (λ j q. whole (put_at f i x j) (f j))
    ∙ reach_sum p (away (put_at f i x) (pos 1) f) f (pos 1) k
    ∙ turned (reach p (away (put_at f i x) (pos 1) f) k) (reach p f k) (p.g i k *ℤ (x -ℤ f i)) (away_reach p f i x k h)
  where
    whole : (x y : ℤ) → x ≡ (x -ℤ pos 1 *ℤ y) +ℤ pos 1 *ℤ y
    whole x y = omega (arith, ints)

    turned : (x y z : ℤ) → x ≡ z → x +ℤ pos 1 *ℤ y ≡ y +ℤ z
    turned x y z e = omega (arith, ints)

-- and the cost by the parabola of the whole diagonal
pub cost_put : (p : Problem) (f : ℕ → ℤ) (i : ℕ) (x : ℤ) → i < p.m → cost p (put_at f i x) (pos 1) ≡ cost p f (pos 1) +ℤ change (gradient p f i) (divisor p i) (x -ℤ f i)
cost_put p f i x h = cost_expands p (put_at f i x) f (pos 1) ∙ put_together (cost p f (pos 1)) (sum_to p.m (λ j. parabola (gradient p f j) (p.r j) (away (put_at f i x) (pos 1) f j) (pos 1))) (sum_to p.nv (λ k. reach p (away (put_at f i x) (pos 1) f) k *ℤ reach p (away (put_at f i x) (pos 1) f) k)) (gradient p f i) (p.r i) (x -ℤ f i) (sum_to p.nv (λ k. p.g i k *ℤ p.g i k)) alone rows
  where
    flat : (g r : ℤ) → parabola g r (pos 0) (pos 1) ≡ pos 0
    flat g r = simp ring (omega (arith, ints))

    alone : sum_to p.m (λ j. parabola (gradient p f j) (p.r j) (away (put_at f i x) (pos 1) f j) (pos 1)) ≡ parabola (gradient p f i) (p.r i) (x -ℤ f i) (pos 1)
    alone =
        sum_to-single p.m i (λ j. parabola (gradient p f j) (p.r j) (away (put_at f i x) (pos 1) f j) (pos 1)) h (λ j q e. ap (λ y. parabola (gradient p f j) (p.r j) y (pos 1)) (away_other f i x j e) ∙ flat (gradient p f j) (p.r j))
        ∙ ap (λ y. parabola (gradient p f i) (p.r i) y (pos 1)) (away_same f i x)

    squared : (g c : ℤ) → (g *ℤ c) *ℤ (g *ℤ c) ≡ (g *ℤ g) *ℤ (c *ℤ c)
    squared g c = simp ring (omega (arith, ints))

    rows : sum_to p.nv (λ k. reach p (away (put_at f i x) (pos 1) f) k *ℤ reach p (away (put_at f i x) (pos 1) f) k) ≡ sum_to p.nv (λ k. p.g i k *ℤ p.g i k) *ℤ ((x -ℤ f i) *ℤ (x -ℤ f i))
    rows =
        sum_to-ext p.nv (λ k. reach p (away (put_at f i x) (pos 1) f) k *ℤ reach p (away (put_at f i x) (pos 1) f) k) (λ k. (p.g i k *ℤ p.g i k) *ℤ ((x -ℤ f i) *ℤ (x -ℤ f i)))
        (λ k q. ap (λ y. y *ℤ y) (away_reach p f i x k h) ∙ squared (p.g i k) (x -ℤ f i))
        ∙ sum_to-scale_right p.nv (λ k. p.g i k *ℤ p.g i k) ((x -ℤ f i) *ℤ (x -ℤ f i))

    grown : (g r c a : ℤ) → parabola g r c (pos 1) +ℤ a *ℤ (c *ℤ c) ≡ change g (a +ℤ r) c
    grown g r c a = simp ring (omega (arith, ints))

    put_together : (b x y g r c a : ℤ) → x ≡ parabola g r c (pos 1) → y ≡ a *ℤ (c *ℤ c) → (pos 1 *ℤ pos 1) *ℤ b +ℤ x +ℤ y ≡ b +ℤ change g (a +ℤ r) c
    put_together b x y g r c a e l = added b x y (parabola g r c (pos 1)) (a *ℤ (c *ℤ c)) (change g (a +ℤ r) c) e l (grown g r c a)
      where
        added : (b x y u v w : ℤ) → x ≡ u → y ≡ v → u +ℤ v ≡ w → (pos 1 *ℤ pos 1) *ℤ b +ℤ x +ℤ y ≡ b +ℤ w
        added b x y u v w h i j = omega (arith, ints)

-- ---- no update raises the cost
no_step : (slope d c : ℤ) → c ≡ pos 0 → change slope d c ≤ℤ pos 0
no_step slope d c e = let z : change slope d c ≡ pos 0 = ap (λ x. x *ℤ (slope +ℤ slope +ℤ d *ℤ c)) e ∙ zero-*ℤ (slope +ℤ slope +ℤ d *ℤ c) in omega (arith, ints)

pub change_never_rises : (slope d q c : ℤ) → pos 0 <ℤ d → IsNearest (neg_ℤ slope) d q → LiesBetween q c → change slope d c ≤ℤ pos 0
change_never_rises slope d q c hd near between = by_lt_z (pos 0) c up (λ l. by_lt_z c (pos 0) down (λ m. no_step slope d c (omega (arith, ints))))
  where
    falls : (s x y d : ℤ) → pos 0 <ℤ d → 2 * unsigned_abs (neg_ℤ s -ℤ x) ≤ unsigned_abs d → y ≤ℤ x → d ≤ℤ y → (s +ℤ s +ℤ y) ≤ℤ pos 0
    falls s x y d hd h l k = omega (arith, ints)

    climbs : (s x y d : ℤ) → pos 0 <ℤ d → 2 * unsigned_abs (neg_ℤ s -ℤ x) ≤ unsigned_abs d → x ≤ℤ y → y ≤ℤ neg_ℤ d → pos 0 ≤ℤ (s +ℤ s +ℤ y)
    climbs s x y d hd h l k = omega (arith, ints)

    not_above : (c x : ℤ) → pos 0 ≤ℤ c → x ≤ℤ pos 0 → (c *ℤ x) ≤ℤ pos 0
    not_above c x h k = let p : pos 0 ≤ℤ (c *ℤ neg_ℤ x) = mul_nonneg c (neg_ℤ x) h (omega (arith, ints)) in omega (arith, ints, *ℤ-neg_ℤ c x)

    not_above_turned : (c x : ℤ) → c ≤ℤ pos 0 → pos 0 ≤ℤ x → (c *ℤ x) ≤ℤ pos 0
    not_above_turned c x h k = let p : pos 0 ≤ℤ (neg_ℤ c *ℤ x) = mul_nonneg (neg_ℤ c) x (omega (arith, ints)) k in omega (arith, ints, neg_ℤ-*ℤ c x)

    up : pos 0 <ℤ c → change slope d c ≤ℤ pos 0
    up h =
        let le : (c *ℤ d) ≤ℤ (q *ℤ d) = mul_mono c q d (omega (arith, ints)) (between.up h) in
        let one : (pos 1 *ℤ d) ≤ℤ (c *ℤ d) = mul_mono (pos 1) c d (omega (arith, ints)) (omega (arith, ints)) in
        not_above c (slope +ℤ slope +ℤ d *ℤ c) (omega (arith, ints)) (rw (*ℤ_comm d c) (falls slope (q *ℤ d) (c *ℤ d) d hd near.close le (omega (arith, ints))))

    down : c <ℤ pos 0 → change slope d c ≤ℤ pos 0
    down h =
        let le : (q *ℤ d) ≤ℤ (c *ℤ d) = mul_mono q c d (omega (arith, ints)) (between.down h) in
        let one : (c *ℤ d) ≤ℤ (neg_ℤ (pos 1) *ℤ d) = mul_mono c (neg_ℤ (pos 1)) d (omega (arith, ints)) (omega (arith, ints)) in
        not_above_turned c (slope +ℤ slope +ℤ d *ℤ c) (omega (arith, ints)) (rw (*ℤ_comm d c) (climbs slope (q *ℤ d) (c *ℤ d) d hd near.close le (omega (arith, ints, neg_ℤ-*ℤ (pos 1) d))))

-- at every divisor: where it is not positive, no step is made
pub next_force_never_rises : (low high : Option ℤ) (d x slope : ℤ) → IsAbove low x (pos 1) → IsBelow high x (pos 1) → change slope d (next_force low high d x slope -ℤ x) ≤ℤ pos 0
unfolding next_force
next_force_never_rises low high d x slope above below =
    let between = clamp_between low high x (nearest (neg_ℤ slope) d) above below in
    by_lt_z (pos 0) d
    (λ h. change_never_rises slope d (nearest (neg_ℤ slope) d) (next_force low high d x slope -ℤ x) h (nearest-is_nearest (neg_ℤ slope) d h) between)
    (λ h. no_step slope d (next_force low high d x slope -ℤ x) (still (nearest (neg_ℤ slope) d) (next_force low high d x slope -ℤ x) (nearest-none (neg_ℤ slope) d h) between))
  where
    still : (q c : ℤ) → q ≡ pos 0 → LiesBetween q c → c ≡ pos 0
    still q c e between =
        by_lt_z (pos 0) c
        (λ h. let l : c ≤ℤ q = between.up h in omega (arith, ints))
        (λ h. by_lt_z c (pos 0) (λ k. let l : q ≤ℤ c = between.down k in omega (arith, ints)) (λ k. omega (arith, ints)))

-- at its low bound, on a slope that is not downhill, a force rests
pub next_force_rests : (high : Option ℤ) (d x slope : ℤ) → IsBelow high x (pos 1) → pos 0 ≤ℤ slope → next_force (Some x) high d x slope ≡ x
unfolding next_force
next_force_rests high d x slope below h =
    let order : nearest (neg_ℤ slope) d ≤ℤ nearest (pos 0) d = nearest-mono (neg_ℤ slope) (pos 0) d (omega (arith, ints)) in
    let zero : nearest (pos 0) d ≡ pos 0 = nearest-zero d in
    ap (at_most high) (at_least_low x (x +ℤ nearest (neg_ℤ slope) d) (omega (arith, ints))) ∙ at_most_rests high x below

pub update_never_rises : (p : Problem) (f : ℕ → ℤ) (i : ℕ) → i < p.m → IsFeasible p f (pos 1) → cost p (after_update p f i) (pos 1) ≤ℤ cost p f (pos 1)
update_never_rises p f i h within =
    summed (cost p f (pos 1)) (change (gradient p f i) (divisor p i) (update p f i -ℤ f i)) (cost p (after_update p f i) (pos 1)) (cost_put p f i (update p f i) h)
    (next_force_never_rises (p.low i) (p.high i) (divisor p i) (f i) (gradient p f i) (within.above i h) (within.below i h))
  where
    summed : (c x y : ℤ) → y ≡ c +ℤ x → x ≤ℤ pos 0 → y ≤ℤ c
    summed c x y e h = omega (arith, ints)

-- ---- feasible forces stay feasible
pub update_is_feasible : (p : Problem) (f : ℕ → ℤ) (i : ℕ) → i < p.m → IsFeasible p f (pos 1) → IsFeasible p (after_update p f i) (pos 1)
unfolding next_force
update_is_feasible p f i h within = record { above = above; below = below }
  where
    target : ℤ
    target = f i +ℤ nearest (neg_ℤ (gradient p f i)) (divisor p i)

    above : (j : ℕ) → j < p.m → IsAbove (p.low j) (after_update p f i j) (pos 1)
    above j k =
        elim (cases_eq j i) [
          | inl e ↦ subst (λ (x : ℤ). IsAbove (p.low j) x (pos 1)) (sym (put_at_same f i (update p f i) j e))
              (subst (λ (a : ℕ). IsAbove (p.low a) (update p f i) (pos 1)) (sym e) (clamp_above (p.low i) (p.high i) (f i) target (within.above i h) (within.below i h)))
          | inr e ↦ subst (λ (x : ℤ). IsAbove (p.low j) x (pos 1)) (sym (put_at_other f i (update p f i) j e)) (within.above j k)
        ]

    below : (j : ℕ) → j < p.m → IsBelow (p.high j) (after_update p f i j) (pos 1)
    below j k =
        elim (cases_eq j i) [
          | inl e ↦ subst (λ (x : ℤ). IsBelow (p.high j) x (pos 1)) (sym (put_at_same f i (update p f i) j e))
              (subst (λ (a : ℕ). IsBelow (p.high a) (update p f i) (pos 1)) (sym e) (clamp_below (p.low i) (p.high i) target))
          | inr e ↦ subst (λ (x : ℤ). IsBelow (p.high j) x (pos 1)) (sym (put_at_other f i (update p f i) j e)) (within.below j k)
        ]

pub pass_is_feasible : (p : Problem) (f : ℕ → ℤ) (n : ℕ) → n ≤ p.m → IsFeasible p f (pos 1) → IsFeasible p (pass p f n) (pos 1)
pass_is_feasible p f zero h within = within
pass_is_feasible p f (suc n) h within = update_is_feasible p (pass p f n) n h (pass_is_feasible p f n (omega arith) within)

-- every iterate is feasible
pub iterate_is_feasible : (p : Problem) (s : ℕ) → HoldsZero p → IsFeasible p (iterate p s) (pos 1)
unfolding iterate
iterate_is_feasible p zero h = h
iterate_is_feasible p (suc s) h = pass_is_feasible p (iterate p s) p.m (omega arith) (iterate_is_feasible p s h)

-- ---- no sweep raises the cost
pub pass_never_rises : (p : Problem) (f : ℕ → ℤ) (n : ℕ) → n ≤ p.m → IsFeasible p f (pos 1) → cost p (pass p f n) (pos 1) ≤ℤ cost p f (pos 1)
pass_never_rises p f zero h within = omega (arith, ints)
pass_never_rises p f (suc n) h within =
    let step : cost p (pass p f (suc n)) (pos 1) ≤ℤ cost p (pass p f n) (pos 1) = update_never_rises p (pass p f n) n h (pass_is_feasible p f n (omega arith) within) in
    let rest : cost p (pass p f n) (pos 1) ≤ℤ cost p f (pos 1) = pass_never_rises p f n (omega arith) within in
    omega (arith, ints)

pub iterate_next : (p : Problem) (s : ℕ) → iterate p (suc s) ≡ sweep p (iterate p s)
unfolding iterate
iterate_next p s = refl

pub iterate_more : (p : Problem) (s : ℕ) → iterate p (s + 1) ≡ sweep p (iterate p s)
iterate_more p s = ap (λ (n : ℕ). iterate p n) (add-one s) ∙ iterate_next p s

pub sweep_lowers_cost : (p : Problem) (s : ℕ) → HoldsZero p → cost p (iterate p (suc s)) (pos 1) ≤ℤ cost p (iterate p s) (pos 1)
sweep_lowers_cost p s h =
    subst (λ (f : ℕ → ℤ). cost p f (pos 1) ≤ℤ cost p (iterate p s) (pos 1)) (sym (iterate_next p s)) (pass_never_rises p (iterate p s) p.m (omega arith) (iterate_is_feasible p s h))

-- the first iterate costs nothing, so no other costs more
pub iterate_costs_at_most_zero : (p : Problem) (s : ℕ) → HoldsZero p → cost p (iterate p s) (pos 1) ≤ℤ pos 0
unfolding iterate
iterate_costs_at_most_zero p zero h = let e : cost p (λ i. pos 0) (pos 1) ≡ pos 0 = cost_of_zero p (pos 1) in omega (arith, ints)
iterate_costs_at_most_zero p (suc s) h =
    let l : cost p (iterate p (suc s)) (pos 1) ≤ℤ cost p (iterate p s) (pos 1) = sweep_lowers_cost p s h in
    let k : cost p (iterate p s) (pos 1) ≤ℤ pos 0 = iterate_costs_at_most_zero p s h in
    omega (arith, ints)

pub iterate_costs_no_more : (p : Problem) (s t : ℕ) → s ≤ t → HoldsZero p → cost p (iterate p t) (pos 1) ≤ℤ cost p (iterate p s) (pos 1)
iterate_costs_no_more p s zero l h = let e : s ≡ zero = omega arith in rw e (omega (arith, ints))
iterate_costs_no_more p s (suc t) l h =
    elim (cases_eq s (suc t)) [
      | inl e ↦ rw e (omega (arith, ints))
      | inr e ↦ after (sweep_lowers_cost p t h) (iterate_costs_no_more p s t (omega arith) h)
    ]
  where
    after : cost p (iterate p (suc t)) (pos 1) ≤ℤ cost p (iterate p t) (pos 1) → cost p (iterate p t) (pos 1) ≤ℤ cost p (iterate p s) (pos 1) → cost p (iterate p (suc t)) (pos 1) ≤ℤ cost p (iterate p s) (pos 1)
    after h k = omega (arith, ints)

-- ---- a sweep row by row
pub pass_more : (p : Problem) (f : ℕ → ℤ) (n : ℕ) → pass p f (n + 1) ≡ after_update p (pass p f n) n
pass_more p f n = ap (λ (m : ℕ). pass p f m) (add-one n)

-- the rows not yet updated
pub pass_stays : (p : Problem) (f : ℕ → ℤ) (n j : ℕ) → n ≤ j → pass p f n j ≡ f j
pass_stays p f zero j h = refl
pass_stays p f (suc n) j h = put_at_other (pass p f n) n (update p (pass p f n) n) j (omega arith) ∙ pass_stays p f n j (omega arith)

-- past the rows each force is 0
pub iterate_past : (p : Problem) (s j : ℕ) → p.m ≤ j → iterate p s j ≡ pos 0
unfolding iterate
iterate_past p zero j h = refl
iterate_past p (suc s) j h = pass_stays p (iterate p s) p.m j h ∙ iterate_past p s j h

-- the cost changes by the sum of what the rows change
pub pass_cost : (p : Problem) (f : ℕ → ℤ) (n : ℕ) → n ≤ p.m → cost p (pass p f n) (pos 1) ≡ cost p f (pos 1) +ℤ sum_to n (row_change p f)
pass_cost p f zero h = omega (arith, ints)
pass_cost p f (suc n) h = cost_put p (pass p f n) n (update p (pass p f n) n) h ∙ added (cost p (pass p f n) (pos 1)) (cost p f (pos 1)) (sum_to n (row_change p f)) (row_change p f n) (pass_cost p f n (omega arith))
  where
    added : (x c s t : ℤ) → x ≡ c +ℤ s → x +ℤ t ≡ c +ℤ (s +ℤ t)
    added x c s t e = omega (arith, ints)

pub drop_over_rows : (p : Problem) (s : ℕ) → drop_of p s ≡ neg_ℤ (sum_to p.m (row_change p (iterate p s)))
drop_over_rows p s =
    turned (cost p (iterate p s) (pos 1)) (cost p (iterate p (suc s)) (pos 1)) (sum_to p.m (row_change p (iterate p s)))
    (ap (λ f. cost p f (pos 1)) (iterate_next p s) ∙ pass_cost p (iterate p s) p.m (omega arith))
  where
    turned : (c x t : ℤ) → x ≡ c +ℤ t → c -ℤ x ≡ neg_ℤ t
    turned c x t e = omega (arith, ints)
