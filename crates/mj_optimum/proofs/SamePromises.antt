-- What holds of a problem holds of each that has the same rows.
use Rattle.std.proofs.Common.{ℕ, ◌<◌, ℤ, pos, ◌*ℤ◌, ◌<ℤ◌, ◌≤ℤ◌, Option, sym, subst}
use Rattle.mj_optimum.specs.Problem.{IsRegular, Problem}
use Rattle.mj_optimum.specs.Cost.{cost}
use Rattle.mj_optimum.specs.Feasible.{IsAbove, IsBelow, IsFeasible}
use Rattle.mj_optimum.specs.Enclosure.{BoundHolds, BoxHolds}
use Rattle.mj_optimum.specs.Agreement.{HaveSameRows}
use Rattle.mj_optimum.proofs.SameSweeps.{cost-same, row-over, turned}

pub regular-over : (p q : Problem) → HaveSameRows p q → IsRegular p → IsRegular q
regular-over p q s is i h = subst (λ (r : ℤ). pos 0 <ℤ r) (s.regularizers i (row-over p q i s h)) (is i (row-over p q i s h))

pub feasible-over : (p q : Problem) (n : ℕ → ℤ) (d : ℤ) → HaveSameRows p q → IsFeasible p n d → IsFeasible q n d
feasible-over p q n d s is = record { above = above; below = below }
  where
    above : (i : ℕ) → i < q.m → IsAbove (q.low i) (n i) d
    above i h = let l = row-over p q i s h in subst (λ (low : Option ℤ). IsAbove low (n i) d) (s.low_bounds i l) (is.above i l)

    below : (i : ℕ) → i < q.m → IsBelow (q.high i) (n i) d
    below i h = let l = row-over p q i s h in subst (λ (high : Option ℤ). IsBelow high (n i) d) (s.high_bounds i l) (is.below i l)

pub bound_holds-over : (p q : Problem) (x : ℤ) → HaveSameRows p q → BoundHolds p x → BoundHolds q x
bound_holds-over p q x s holds n d h is =
    subst (λ (c : ℤ). ((d *ℤ d) *ℤ x) ≤ℤ c) (cost-same p q n d s) (holds n d h (feasible-over q p n d (turned p q s) is))

pub box_holds-over : (p q : Problem) (f low high : ℕ → ℤ) → HaveSameRows p q → BoxHolds p f low high → BoxHolds q f low high
box_holds-over p q f low high s holds n d h is no_more i r =
    holds n d h (feasible-over q p n d (turned p q s) is)
    (subst (λ (c : ℤ). cost p n d ≤ℤ ((d *ℤ d) *ℤ c)) (sym (cost-same p q f (pos 1) s)) (subst (λ (c : ℤ). c ≤ℤ ((d *ℤ d) *ℤ cost q f (pos 1))) (sym (cost-same p q n d s)) no_more))
    i (row-over p q i s r)
