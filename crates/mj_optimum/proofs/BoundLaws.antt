-- The laws of the lower bound: what all rows gain together is at most the total shortfall.
use Rattle.std.proofs.Common.{◌≡◌, ℕ, ◌<◌, ℤ, pos, ◌+ℤ◌, ◌-ℤ◌, ◌*ℤ◌, neg_ℤ, ◌<ℤ◌, ◌≤ℤ◌, unsigned_abs, Bool, true, false, cond, Some, None, refl, sym, ap, ap₂, ◌∙◌, subst, arith}
use Rattle.std.specs.Prelude.{int_le}
use Rattle.std.proofs.lemmas.Int.{ints}
use Rattle.fx_whole.specs.Sums.{sum_to}
use Rattle.fx_whole.proofs.Ring.{ring, mul_nonneg, square_nonneg, *ℤ_distrib_left, *ℤ-neg_ℤ}
use Rattle.fx_whole.proofs.SumLaws.{sum_to-add, sum_to-scale_left, sum_to-nonneg}
use Rattle.mj_optimum.specs.Problem.{Problem, IsRegular}
use Rattle.mj_optimum.specs.Cost.{reach, cost, gradient}
use Rattle.mj_optimum.specs.Feasible.{IsFeasible}
use Rattle.mj_optimum.specs.Enclosure.{BoundHolds, CostsNoMore, away, parabola}
use Rattle.mj_optimum.specs.Shortfall.{room, depth, fall, shortfall, total_shortfall, bound2}
use Rattle.mj_optimum.specs.Box.{left_to}
use Rattle.mj_optimum.proofs.Combining.{term_le_sum}
use Rattle.mj_optimum.proofs.CostLaws.{cost_expands}
use Rattle.mj_optimum.proofs.ParabolaLaws.{row_covers}
use Rattle.mj_optimum.proofs.Tests.{int_le_true, int_le_false, int_le_none}

-- the parabolas of the rows at n / d, added up; and the part of the cost beside them
abbrev pub parabolas : Problem → (ℕ → ℤ) → (ℕ → ℤ) → ℤ → ℤ
parabolas p n f d = sum_to p.m (λ i. parabola (gradient p f i) (p.r i) (away n d f i) d)

abbrev pub squares : Problem → (ℕ → ℤ) → (ℕ → ℤ) → ℤ → ℤ
squares p n f d = sum_to p.nv (λ k. reach p (away n d f) k *ℤ reach p (away n d f) k)

pub squares_nonneg : (p : Problem) (n f : ℕ → ℤ) (d : ℤ) → pos 0 ≤ℤ squares p n f d
squares_nonneg p n f d = sum_to-nonneg p.nv (λ k. reach p (away n d f) k *ℤ reach p (away n d f) k) (λ k q. square_nonneg (reach p (away n d f) k))

-- ---- row by row
-- the parabola of each row is at least minus its shortfall, times d d
pub parabola_is_least : (p : Problem) (n f : ℕ → ℤ) (d : ℤ) → IsRegular p → pos 0 <ℤ d → IsFeasible p n d → (i : ℕ) → i < p.m
    → pos 0 ≤ℤ (parabola (gradient p f i) (p.r i) (away n d f i) d +ℤ (d *ℤ d) *ℤ shortfall p f i)
unfolding shortfall
parabola_is_least p n f d regular hd within i h = row_covers (p.low i) (p.high i) (f i) (gradient p f i) (p.r i) (n i) d (regular i h) hd (within.above i h) (within.below i h)

-- so no shortfall of a feasible force is negative, and neither is what the other rows fall short by
pub shortfall_nonneg : (p : Problem) (f : ℕ → ℤ) → IsRegular p → IsFeasible p f (pos 1) → (i : ℕ) → i < p.m → pos 0 ≤ℤ shortfall p f i
shortfall_nonneg p f regular within i h =
    let least = parabola_is_least p f f (pos 1) regular (omega (arith, ints)) within i h in
    alone (shortfall p f i) (parabola (gradient p f i) (p.r i) (away f (pos 1) f i) (pos 1)) (ap (λ x. parabola (gradient p f i) (p.r i) x (pos 1)) (here (f i)) ∙ flat (gradient p f i) (p.r i)) least
  where
    here : (x : ℤ) → x -ℤ pos 1 *ℤ x ≡ pos 0
    here x = omega (arith, ints)

    flat : (g r : ℤ) → parabola g r (pos 0) (pos 1) ≡ pos 0
    flat g r = simp ring (omega (arith, ints))

    alone : (e x : ℤ) → x ≡ pos 0 → pos 0 ≤ℤ (x +ℤ (pos 1 *ℤ pos 1) *ℤ e) → pos 0 ≤ℤ e
    alone e x h l = omega (arith, ints)

pub left_to_nonneg : (p : Problem) (f : ℕ → ℤ) → IsRegular p → IsFeasible p f (pos 1) → (i : ℕ) → i < p.m → pos 0 ≤ℤ left_to p f i
unfolding total_shortfall
left_to_nonneg p f regular within i h =
    let term : shortfall p f i ≤ℤ total_shortfall p f = term_le_sum p.m i (shortfall p f) h (shortfall_nonneg p f regular within) in
    omega (arith, ints)

raised_sum : (p : Problem) (n f : ℕ → ℤ) (d : ℤ)
    → sum_to p.m (λ i. parabola (gradient p f i) (p.r i) (away n d f i) d +ℤ (d *ℤ d) *ℤ shortfall p f i) ≡ parabolas p n f d +ℤ (d *ℤ d) *ℤ total_shortfall p f
unfolding total_shortfall
raised_sum p n f d =
    sum_to-add p.m (λ i. parabola (gradient p f i) (p.r i) (away n d f i) d) (λ i. (d *ℤ d) *ℤ shortfall p f i)
    ∙ ap (λ x. parabolas p n f d +ℤ x) (sum_to-scale_left p.m (d *ℤ d) (shortfall p f))

parabolas_covered : (p : Problem) (n f : ℕ → ℤ) (d : ℤ) → IsRegular p → pos 0 <ℤ d → IsFeasible p n d → pos 0 ≤ℤ (parabolas p n f d +ℤ (d *ℤ d) *ℤ total_shortfall p f)
parabolas_covered p n f d regular hd within =
    rw (← raised_sum p n f d) (sum_to-nonneg p.m (λ i. parabola (gradient p f i) (p.r i) (away n d f i) d +ℤ (d *ℤ d) *ℤ shortfall p f i) (parabola_is_least p n f d regular hd within))

-- ---- the bound
pub bound_holds : (p : Problem) (f : ℕ → ℤ) → IsRegular p → BoundHolds p (bound2 p f)
bound_holds p f regular n d hd within =
    added (cost p n d) (d *ℤ d) (cost p f (pos 1)) (total_shortfall p f) (parabolas p n f d) (squares p n f d) (cost_expands p n f d) (parabolas_covered p n f d regular hd within) (squares_nonneg p n f d)
  where
    added : (c k b e x y : ℤ) → c ≡ k *ℤ b +ℤ x +ℤ y → pos 0 ≤ℤ (x +ℤ k *ℤ e) → pos 0 ≤ℤ y → (k *ℤ (b -ℤ e)) ≤ℤ c
    added c k b e x y h i j = omega (arith, ints, *ℤ_distrib_left k b (neg_ℤ e), *ℤ-neg_ℤ k e)

-- where n / d costs no more than f, each row's parabola is at most what the other rows can gain
pub parabola_is_low : (p : Problem) (n f : ℕ → ℤ) (d : ℤ) → IsRegular p → pos 0 <ℤ d → IsFeasible p n d → CostsNoMore p n d f → (i : ℕ) → i < p.m
    → parabola (gradient p f i) (p.r i) (away n d f i) d ≤ℤ ((d *ℤ d) *ℤ (total_shortfall p f -ℤ shortfall p f i))
parabola_is_low p n f d regular hd within low i h =
    let term = term_le_sum p.m i (λ i. parabola (gradient p f i) (p.r i) (away n d f i) d +ℤ (d *ℤ d) *ℤ shortfall p f i) h (parabola_is_least p n f d regular hd within) in
    taken (parabola (gradient p f i) (p.r i) (away n d f i) d) (d *ℤ d) (shortfall p f i) (total_shortfall p f) (parabolas p n f d) (squares p n f d) (cost p n d) (cost p f (pos 1))
    (rw (← raised_sum p n f d) term) (cost_expands p n f d) (squares_nonneg p n f d) low
  where
    taken : (x k e t s y c b : ℤ) → (x +ℤ k *ℤ e) ≤ℤ (s +ℤ k *ℤ t) → c ≡ k *ℤ b +ℤ s +ℤ y → pos 0 ≤ℤ y → c ≤ℤ (k *ℤ b) → x ≤ℤ (k *ℤ (t -ℤ e))
    taken x k e t s y c b h g i l = omega (arith, ints, *ℤ_distrib_left k t (neg_ℤ e), *ℤ-neg_ℤ k e)

-- ---- the optimum
pub optimum_holds : (p : Problem) (f : ℕ → ℤ) → IsRegular p → total_shortfall p f ≡ pos 0 → BoundHolds p (cost p f (pos 1))
optimum_holds p f regular e = subst (λ (x : ℤ). BoundHolds p x) (whole (cost p f (pos 1)) (total_shortfall p f) e) (bound_holds p f regular)
  where
    whole : (c t : ℤ) → t ≡ pos 0 → c -ℤ t ≡ c
    whole c t h = omega (arith, ints)

-- ---- a row with the low bound 0 and no high one
fall_from_zero : (f g r : ℤ) → pos 0 ≤ℤ f → pos 0 ≤ℤ r
    → fall (unsigned_abs g) r (room (Some (pos 0)) None f g) ≡ cond (int_le (r *ℤ f) g) (f *ℤ (pos 2 *ℤ g -ℤ r *ℤ f)) (depth (unsigned_abs g) (unsigned_abs r))
fall_from_zero f g r hf hr = pick (int_le (pos 0) g) refl
  where
    whole : f -ℤ pos 0 ≡ f
    whole = omega (arith, ints)

    same : pos 0 ≤ℤ g → pos (unsigned_abs g) ≡ g
    same h = omega (arith, ints)

    below : (x : ℤ) → pos 0 ≤ℤ x → g <ℤ pos 0 → g <ℤ x
    below x h k = omega (arith, ints)

    pick : (b : Bool) → int_le (pos 0) g ≡ b → fall (unsigned_abs g) r (cond b (Some (f -ℤ pos 0)) None) ≡ cond (int_le (r *ℤ f) g) (f *ℤ (pos 2 *ℤ g -ℤ r *ℤ f)) (depth (unsigned_abs g) (unsigned_abs r))
    pick true e =
        ap₂ (λ t x. cond (int_le (r *ℤ t) x) (t *ℤ (pos 2 *ℤ x -ℤ r *ℤ t)) (depth (unsigned_abs g) (unsigned_abs r))) whole (same (int_le_true (pos 0) g e))
    pick false e =
        sym (ap (λ b. cond b (f *ℤ (pos 2 *ℤ g -ℤ r *ℤ f)) (depth (unsigned_abs g) (unsigned_abs r))) (int_le_none (r *ℤ f) g (below (r *ℤ f) (mul_nonneg r f hr hf) (int_le_false (pos 0) g e))))

pub shortfall_from_zero : (p : Problem) (f : ℕ → ℤ) (i : ℕ) → p.low i ≡ Some (pos 0) → p.high i ≡ None → pos 0 ≤ℤ f i → pos 0 ≤ℤ p.r i
    → shortfall p f i ≡ cond (int_le (p.r i *ℤ f i) (gradient p f i)) (f i *ℤ (pos 2 *ℤ gradient p f i -ℤ p.r i *ℤ f i)) (depth (unsigned_abs (gradient p f i)) (unsigned_abs (p.r i)))
unfolding shortfall
shortfall_from_zero p f i low high hf hr =
    ap₂ (λ l h. fall (unsigned_abs (gradient p f i)) (p.r i) (room l h (f i) (gradient p f i))) low high ∙ fall_from_zero (f i) (gradient p f i) (p.r i) hf hr
