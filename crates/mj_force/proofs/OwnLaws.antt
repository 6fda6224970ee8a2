-- A dual's numbers of its own rows are a problem with the same rows, and a lawful one.
use Rattle.std.proofs.Common.{pos, None, refl, sym, ap, ◌∙◌}
use Rattle.fx_whole.specs.Entries.{below}
use Rattle.fx_whole.proofs.EntryLaws.{below-within}
use Rattle.mj_optimum.specs.Problem.{IsRegular, Problem}
use Rattle.mj_optimum.specs.Feasible.{HoldsZero}
use Rattle.mj_types.specs.declared.dual.Dual.{Dual}
use Rattle.mj_types.specs.Problems.{IsSolvable, place, problem}
use Rattle.mj_types.specs.StepValues.{dual_values, own}
use Rattle.mj_pgs.proofs.SweepLaws.{holds_zero}
use Rattle.mj_types.proofs.DualLaws.{regular}
use Rattle.mj_optimum.specs.Agreement.{HaveSameRows}
use Rattle.mj_optimum.proofs.SamePromises.{feasible-over, regular-over}
use Rattle.mj_force.proofs.FaultLaws.{AreNumberedAlike}

pub own-rows : (p : Problem) → HaveSameRows p (own p)
own-rows p = record {
  rows = refl;
  dofs = refl;
  numbers = λ i k h l. sym (ap (λ f. f k) (below-within (λ k. pos 0) p.m (λ i. below (pos 0) p.nv (p.g i)) i h) ∙ below-within (pos 0) p.nv (p.g i) k l);
  regularizers = λ i h. sym (below-within (pos 0) p.m p.r i h);
  right_sides = λ i h. sym (below-within (pos 0) p.m p.b i h);
  low_bounds = λ i h. sym (below-within None p.m p.low i h);
  high_bounds = λ i h. sym (below-within None p.m p.high i h);
}

pub own-place : (d : Dual) → AreNumberedAlike (problem d) (place d) (dual_values d).place
own-place d i h = sym (below-within 0 d.m (place d) i h)

-- ---- every dual is lawful, and 0 is a force of each that a solver takes
pub own-regular : (d : Dual) → IsRegular (dual_values d).problem
own-regular d = regular-over (problem d) (own (problem d)) (own-rows (problem d)) (regular d)

pub own-holds_zero : (d : Dual) → IsSolvable d → HoldsZero (dual_values d).problem
own-holds_zero d solvable = feasible-over (problem d) (own (problem d)) (λ i. pos 0) (pos 1) (own-rows (problem d)) (holds_zero d solvable)
