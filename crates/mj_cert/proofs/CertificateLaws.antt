-- What the numbers of a certificate promise, by the laws of the dual problem.
use Rattle.std.proofs.Common.{◌≡◌, ◌+◌, ◌*◌, ◌^◌, ◌<◌, ◌≤◌, ℤ, pos, ◌*ℤ◌, ◌≤ℤ◌, unsigned_abs, sym, subst, arith}
use Rattle.std.proofs.lemmas.Int.{ints}
use Rattle.mj_optimum.specs.Cost.{cost}
use Rattle.mj_optimum.specs.Enclosure.{BoundHolds, BoxHolds, IsOnly}
use Rattle.mj_optimum.specs.Shortfall.{total_shortfall}
use Rattle.mj_optimum.proofs.BoundLaws.{bound_holds}
use Rattle.mj_optimum.proofs.BoxLaws.{box_holds, optimum_is_only}
use Rattle.mj_types.specs.declared.dual.Dual.{Dual}
use Rattle.mj_types.specs.declared.dual.Forces.{Forces}
use Rattle.mj_types.specs.declared.dual.Cert.{Cert}
use Rattle.mj_types.specs.Parts.{number_at}
use Rattle.mj_types.specs.Problems.{problem, forces}
use Rattle.mj_types.specs.Solved.{IsSolved}
use Rattle.mj_cert.specs.Certificate.{IsCertificate}
use Rattle.mj_types.proofs.DualLaws.{regular}
use Rattle.mj_cert.proofs.SolvedLaws.{cost-within}
use Rattle.mj_cert.proofs.ShortfallLaws.{total-nonneg}

pub bound-holds : (d : Dual) (x : Forces) (c : Cert) → IsCertificate d x c → BoundHolds (problem d) c.bound2
bound-holds d x c is = subst (λ (y : ℤ). BoundHolds (problem d) y) (sym is.bound) (bound_holds (problem d) (forces x) (regular d))

pub box-holds : (d : Dual) (x : Forces) (c : Cert) → IsCertificate d x c → BoxHolds (problem d) (forces x) (number_at c.lo) (number_at c.hi)
box-holds d x c is n e he within low i h =
    let inside = box_holds (problem d) (forces x) (regular d) n e he within low i h in
    record {
      above = subst (λ (y : ℤ). (e *ℤ y) ≤ℤ n i) (sym (is.low i h)) inside.above;
      below = subst (λ (y : ℤ). n i ≤ℤ (e *ℤ y)) (sym (is.high i h)) inside.below;
    }

-- where the bound is the cost
pub least : (d : Dual) (x : Forces) (c : Cert) → IsCertificate d x c → c.bound2 ≡ c.cost2 → BoundHolds (problem d) c.cost2
least d x c is closed = subst (λ (y : ℤ). BoundHolds (problem d) y) closed (bound-holds d x c is)

pub only : (d : Dual) (x : Forces) (c : Cert) → IsSolved d x → IsCertificate d x c → c.bound2 ≡ c.cost2 → IsOnly (problem d) (forces x)
only d x c s is closed =
    optimum_is_only (problem d) (forces x) (regular d) s.feasible (subst (λ (y : ℤ). BoundHolds (problem d) y) is.cost (least d x c is closed))

pub bound-fits : (d : Dual) (x : Forces) (t : ℤ) → IsSolved d x → t ≡ total_shortfall (problem d) (forces x) → t ≤ℤ pos (2 ^ 124)
    → unsigned_abs (cost (problem d) (forces x) (pos 1)) + unsigned_abs t < 2 ^ 127
bound-fits d x t s e l =
    fits (cost (problem d) (forces x) (pos 1)) t (cost-within d x s) (subst (λ (y : ℤ). pos 0 ≤ℤ y) (sym e) (total-nonneg d x s)) l
  where
    fits : (c t : ℤ) → unsigned_abs c ≤ 3 * 2 ^ 124 → pos 0 ≤ℤ t → t ≤ℤ pos (2 ^ 124) → unsigned_abs c + unsigned_abs t < 2 ^ 127
    fits c t h k l = omega (arith, ints)
