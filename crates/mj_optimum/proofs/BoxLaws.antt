-- The laws of the box, and that an optimum is the only one.
use Rattle.std.proofs.Common.{◌≡◌, ℕ, ◌<◌, ℤ, pos, ◌+ℤ◌, ◌-ℤ◌, ◌*ℤ◌, neg_ℤ, ◌<ℤ◌, ◌≤ℤ◌, Option, Some, None, refl, sym, ap, ◌∙◌, subst, arith}
use Rattle.std.proofs.lemmas.Int.{ints, by_lt_z}
use Rattle.fx_whole.specs.Sums.{sum_to}
use Rattle.fx_whole.proofs.Ring.{ring, mul_pos, mul_nonneg, square_nonneg, *ℤ_distrib_left, *ℤ-neg_ℤ}
use Rattle.fx_whole.proofs.SumLaws.{sum_to-ext}
use Rattle.mj_optimum.specs.Problem.{Problem, IsRegular}
use Rattle.mj_optimum.specs.Cost.{reach, cost, gradient}
use Rattle.mj_optimum.specs.Feasible.{IsAbove, IsBelow, IsFeasible}
use Rattle.mj_optimum.specs.Enclosure.{BoundHolds, BoxHolds, IsOnly, away, parabola}
use Rattle.mj_optimum.specs.Box.{left_to, rise_up, rise_down, lo, hi}
use Rattle.mj_optimum.proofs.Combining.{two_sums, term_le_sum}
use Rattle.mj_optimum.proofs.ClampLaws.{at_least_keeps, at_most_keeps}
use Rattle.mj_optimum.proofs.CostLaws.{cost_expands, reach_ext}
use Rattle.mj_optimum.proofs.ParabolaLaws.{parabola_turned, risen_covers}
use Rattle.mj_optimum.proofs.BoundLaws.{parabolas, squares, squares_nonneg, parabola_is_low}
use Rattle.mj_optimum.proofs.RiseLaws.{rise_is_least}

-- ---- the box
pub box_holds : (p : Problem) (f : ℕ → ℤ) → IsRegular p → BoxHolds p f (lo p f) (hi p f)
box_holds p f regular n d hd within low i h =
    let flat : parabola (gradient p f i) (p.r i) (away n d f i) d ≤ℤ ((d *ℤ d) *ℤ left_to p f i) = parabola_is_low p n f d regular hd within low i h in
    let up : away n d f i ≤ℤ (d *ℤ pos (rise_up p f i)) = risen_covers (gradient p f i) (p.r i) (left_to p f i) (away n d f i) d (rise_up p f i) (regular i h) hd (rise_is_least (gradient p f i) (p.r i) (left_to p f i) (regular i h)).holds flat in
    let turned : parabola (neg_ℤ (gradient p f i)) (p.r i) (neg_ℤ (away n d f i)) d ≤ℤ ((d *ℤ d) *ℤ left_to p f i) = subst (λ (x : ℤ). x ≤ℤ ((d *ℤ d) *ℤ left_to p f i)) (sym (parabola_turned (gradient p f i) (p.r i) (away n d f i) d)) flat in
    let down : neg_ℤ (away n d f i) ≤ℤ (d *ℤ pos (rise_down p f i)) = risen_covers (neg_ℤ (gradient p f i)) (p.r i) (left_to p f i) (neg_ℤ (away n d f i)) d (rise_down p f i) (regular i h) hd (rise_is_least (neg_ℤ (gradient p f i)) (p.r i) (left_to p f i) (regular i h)).holds turned in
    record {
      above = at_least_keeps (p.low i) (f i -ℤ pos (rise_down p f i)) (n i) d (within.above i h) (from_down (n i) d (f i) (pos (rise_down p f i)) down);
      below = at_most_keeps (p.high i) (f i +ℤ pos (rise_up p f i)) (n i) d (within.below i h) (from_up (n i) d (f i) (pos (rise_up p f i)) up);
    }
  where
    from_up : (n d f k : ℤ) → (n -ℤ d *ℤ f) ≤ℤ (d *ℤ k) → n ≤ℤ (d *ℤ (f +ℤ k))
    from_up n d f k h = omega (arith, ints, *ℤ_distrib_left d f k)

    from_down : (n d f k : ℤ) → neg_ℤ (n -ℤ d *ℤ f) ≤ℤ (d *ℤ k) → (d *ℤ (f -ℤ k)) ≤ℤ n
    from_down n d f k h = omega (arith, ints, *ℤ_distrib_left d f (neg_ℤ k), *ℤ-neg_ℤ d k)

-- ---- the only optimum, by the point half way between
-- n / d and f, over 2 d
abbrev half_way : (ℕ → ℤ) → ℤ → (ℕ → ℤ) → ℕ → ℤ
half_way n d f i = n i +ℤ d *ℤ f i

twice : (d x : ℤ) → (pos 2 *ℤ d) *ℤ x ≡ d *ℤ x +ℤ d *ℤ x
twice d x = simp ring (omega (arith, ints))

same_away : (n d f : ℤ) → (n +ℤ d *ℤ f) -ℤ (pos 2 *ℤ d) *ℤ f ≡ n -ℤ d *ℤ f
same_away n d f = omega (arith, ints, twice d f)

between_above : (low : Option ℤ) (n d f : ℤ) → pos 0 <ℤ d → IsAbove low n d → IsAbove low f (pos 1) → IsAbove low (n +ℤ d *ℤ f) (pos 2 *ℤ d)
between_above None n d f hd h k = tt
between_above (Some low) n d f hd h k =
    let p : pos 0 ≤ℤ (d *ℤ (f +ℤ neg_ℤ low)) = mul_nonneg d (f +ℤ neg_ℤ low) (omega (arith, ints)) (omega (arith, ints)) in
    omega (arith, ints, twice d low, *ℤ_distrib_left d f (neg_ℤ low), *ℤ-neg_ℤ d low)

between_below : (high : Option ℤ) (n d f : ℤ) → pos 0 <ℤ d → IsBelow high n d → IsBelow high f (pos 1) → IsBelow high (n +ℤ d *ℤ f) (pos 2 *ℤ d)
between_below None n d f hd h k = tt
between_below (Some high) n d f hd h k =
    let p : pos 0 ≤ℤ (d *ℤ (high +ℤ neg_ℤ f)) = mul_nonneg d (high +ℤ neg_ℤ f) (omega (arith, ints)) (omega (arith, ints)) in
    omega (arith, ints, twice d high, *ℤ_distrib_left d high (neg_ℤ f), *ℤ-neg_ℤ d f)

-- the parabola at half the way
half_parabola : (g r s d : ℤ) → parabola g r s (pos 2 *ℤ d) ≡ pos 2 *ℤ parabola g r s d +ℤ neg_ℤ (pos 1) *ℤ (r *ℤ (s *ℤ s))
half_parabola g r s d = simp ring (omega (arith, ints))

half_parabolas : (p : Problem) (n f : ℕ → ℤ) (d : ℤ) → parabolas p (half_way n d f) f (pos 2 *ℤ d) ≡ pos 2 *ℤ parabolas p n f d -ℤ sum_to p.m (λ i. p.r i *ℤ (away n d f i *ℤ away n d f i))
half_parabolas p n f d =
    two_sums p.m (λ i. parabola (gradient p f i) (p.r i) (away (half_way n d f) (pos 2 *ℤ d) f i) (pos 2 *ℤ d)) (λ i. parabola (gradient p f i) (p.r i) (away n d f i) d) (λ i. p.r i *ℤ (away n d f i *ℤ away n d f i)) (pos 2) (neg_ℤ (pos 1))
    (λ i q. ap (λ x. parabola (gradient p f i) (p.r i) x (pos 2 *ℤ d)) (same_away (n i) d (f i)) ∙ half_parabola (gradient p f i) (p.r i) (away n d f i) d)
    ∙ omega (arith, ints)

half_squares : (p : Problem) (n f : ℕ → ℤ) (d : ℤ) → squares p (half_way n d f) f (pos 2 *ℤ d) ≡ squares p n f d
half_squares p n f d =
    sum_to-ext p.nv (λ k. reach p (away (half_way n d f) (pos 2 *ℤ d) f) k *ℤ reach p (away (half_way n d f) (pos 2 *ℤ d) f) k) (λ k. reach p (away n d f) k *ℤ reach p (away n d f) k)
    (λ k q. ap (λ x. x *ℤ x) (reach_ext p (away (half_way n d f) (pos 2 *ℤ d) f) (away n d f) k (λ i q. same_away (n i) d (f i))))

zero_from : (r s : ℤ) → pos 0 <ℤ r → (r *ℤ (s *ℤ s)) ≤ℤ pos 0 → s ≡ pos 0
zero_from r s hr h =
    by_lt_z s (pos 0)
    (λ l. let p : pos 0 <ℤ (r *ℤ (neg_ℤ s *ℤ neg_ℤ s)) = mul_pos r (neg_ℤ s *ℤ neg_ℤ s) hr (mul_pos (neg_ℤ s) (neg_ℤ s) (omega (arith, ints)) (omega (arith, ints))) in
    absurd (clash (r *ℤ (s *ℤ s)) (r *ℤ (neg_ℤ s *ℤ neg_ℤ s)) (ap (λ x. r *ℤ x) (turned s)) h p))
    (λ l. by_lt_z (pos 0) s
    (λ m. let p : pos 0 <ℤ (r *ℤ (s *ℤ s)) = mul_pos r (s *ℤ s) hr (mul_pos s s m m) in absurd (clash (r *ℤ (s *ℤ s)) (r *ℤ (s *ℤ s)) refl h p))
    (λ m. omega (arith, ints)))
  where
    turned : (s : ℤ) → s *ℤ s ≡ neg_ℤ s *ℤ neg_ℤ s
    turned s = simp ring (omega (arith, ints))

    clash : (x y : ℤ) → x ≡ y → x ≤ℤ pos 0 → pos 0 <ℤ y → ⊥
    clash x y e h k = omega (arith, ints)

pub optimum_is_only : (p : Problem) (f : ℕ → ℤ) → IsRegular p → IsFeasible p f (pos 1) → BoundHolds p (cost p f (pos 1)) → IsOnly p f
optimum_is_only p f regular own least n d hd within low i h =
    let term : (p.r i *ℤ (away n d f i *ℤ away n d f i)) ≤ℤ sum_to p.m (λ i. p.r i *ℤ (away n d f i *ℤ away n d f i)) = term_le_sum p.m i (λ i. p.r i *ℤ (away n d f i *ℤ away n d f i)) h weights in
    let flat : (p.r i *ℤ (away n d f i *ℤ away n d f i)) ≤ℤ pos 0 = omega (arith, ints, total) in
    back (n i) (d *ℤ f i) (zero_from (p.r i) (away n d f i) (regular i h) flat)
  where
    weights : (k : ℕ) → k < p.m → pos 0 ≤ℤ (p.r k *ℤ (away n d f k *ℤ away n d f k))
    weights k q = mul_nonneg (p.r k) (away n d f k *ℤ away n d f k) (let r : pos 0 <ℤ p.r k = regular k q in omega (arith, ints)) (square_nonneg (away n d f k))

    between : IsFeasible p (half_way n d f) (pos 2 *ℤ d)
    between =
        record {
          above = λ k q. between_above (p.low k) (n k) d (f k) hd (within.above k q) (own.above k q);
          below = λ k q. between_below (p.high k) (n k) d (f k) hd (within.below k q) (own.below k q);
        }

    halved : cost p (half_way n d f) (pos 2 *ℤ d) ≡ ((pos 2 *ℤ d) *ℤ (pos 2 *ℤ d)) *ℤ cost p f (pos 1) +ℤ (pos 2 *ℤ parabolas p n f d -ℤ sum_to p.m (λ i. p.r i *ℤ (away n d f i *ℤ away n d f i))) +ℤ squares p n f d
    halved =
        cost_expands p (half_way n d f) f (pos 2 *ℤ d)
        ∙ ap (λ x. ((pos 2 *ℤ d) *ℤ (pos 2 *ℤ d)) *ℤ cost p f (pos 1) +ℤ x +ℤ squares p (half_way n d f) f (pos 2 *ℤ d)) (half_parabolas p n f d)
        ∙ ap (λ x. ((pos 2 *ℤ d) *ℤ (pos 2 *ℤ d)) *ℤ cost p f (pos 1) +ℤ (pos 2 *ℤ parabolas p n f d -ℤ sum_to p.m (λ i. p.r i *ℤ (away n d f i *ℤ away n d f i))) +ℤ x) (half_squares p n f d)

    -- x the parabolas, y the squares, w the weights
    weighed : (k c x y w e : ℤ) → c ≤ℤ e → c ≡ e +ℤ x +ℤ y → k ≤ℤ (k +ℤ (pos 2 *ℤ x -ℤ w) +ℤ y) → pos 0 ≤ℤ y → w ≤ℤ pos 0
    weighed k c x y w e h i j l = omega (arith, ints)

    total : sum_to p.m (λ i. p.r i *ℤ (away n d f i *ℤ away n d f i)) ≤ℤ pos 0
    total =
        weighed (((pos 2 *ℤ d) *ℤ (pos 2 *ℤ d)) *ℤ cost p f (pos 1)) (cost p n d) (parabolas p n f d) (squares p n f d) (sum_to p.m (λ i. p.r i *ℤ (away n d f i *ℤ away n d f i))) ((d *ℤ d) *ℤ cost p f (pos 1))
        low (cost_expands p n f d) (subst (λ (x : ℤ). (((pos 2 *ℤ d) *ℤ (pos 2 *ℤ d)) *ℤ cost p f (pos 1)) ≤ℤ x) halved (least (half_way n d f) (pos 2 *ℤ d) (omega (arith, ints)) between)) (squares_nonneg p n f d)

    back : (x y : ℤ) → x -ℤ y ≡ pos 0 → x ≡ y
    back x y e = omega (arith, ints)
