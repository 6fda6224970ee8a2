-- A sweep, row by row, and what the cost falls by.
use Rattle.std.proofs.Common.{◌≡◌, ℕ, ◌+◌, ◌^◌, ◌<◌, ◌≤◌, ℤ, pos, ◌+ℤ◌, ◌-ℤ◌, ◌*ℤ◌, neg_ℤ, ◌≤ℤ◌, unsigned_abs, Option, Some, None, SFits, refl, sym, ap, ap₂, ◌∙◌, subst, arith, IsTrue}
use Rattle.std.proofs.lemmas.Int.{ints, int_wrap-add_left, int_wrap-add_right, int_wrap-sub_right, int_wrap_fits, fits_signed_from_abs}
use Rattle.std.specs.Int.{int_wrap}
use mir.Syntax.{w128}
use Rattle.fx_whole.specs.First.{first_to}
use Rattle.fx_whole.specs.Sums.{sum_to}
use Rattle.fx_whole.proofs.FirstLaws.{pass_more}
use Rattle.fx_whole.proofs.SumLaws.{sum_to-more}
use Rattle.mj_optimum.specs.Problem.{Problem, IsRegular}
use Rattle.mj_optimum.specs.Cost.{cost}
use Rattle.mj_optimum.specs.Feasible.{IsAbove, IsBelow, IsFeasible, HoldsZero}
use Rattle.mj_optimum.specs.Limits.{cost_limit, weight_to, pull_to}
use Rattle.mj_optimum.specs.Sweep.{after_update, pass, sweep, row_change}
use Rattle.mj_optimum.proofs.LimitLaws.{cost_at_least}
use Rattle.mj_optimum.proofs.SweepLaws as law
use Rattle.mj_types.specs.declared.dual.Dual.{Dual}
use Rattle.mj_types.specs.declared.dual.Forces.{Forces}
use Rattle.mj_types.specs.Problems.{IsSolvable, problem, forces, place}
use Rattle.mj_types.specs.Solved.{IsSolved}
use Rattle.mj_types.proofs.DualLaws.{regular}
use Rattle.mj_pgs.specs.Answer.{row_fault}
use Rattle.mj_pgs.proofs.BoundLaws.{zero_above, zero_below}
use Rattle.mj_pgs.specs.Holding.{HaveSamePlaces, IsHeld, change_at}

pub same-places : (a b c : Forces) → HaveSamePlaces a b → HaveSamePlaces b c → HaveSamePlaces a c
same-places a b c p q = record { f = q.f ∙ p.f; u = q.u ∙ p.u; divisor = q.divisor ∙ p.divisor; used = q.used ∙ p.used }

pub record SweptSoFar (d : Dual) (x y : Forces) (total : ℤ) (n : ℕ) : Type 0 where
  pub places : HaveSamePlaces x y
  pub held : IsHeld d y
  pub swept : forces y ≡ pass (problem d) (forces x) n
  pub passed : first_to n (λ i. row_fault (problem d) (place d) (pass (problem d) (forces x) i) i) ≡ None
  pub changed : total ≡ int_wrap w128 (sum_to n (row_change (problem d) (forces x)))

pub swept-none : (d : Dual) (x : Forces) → IsHeld d x → SweptSoFar d x x (pos 0) 0
swept-none d x held = record { places = record { f = refl; u = refl; divisor = refl; used = refl }; held = held; swept = refl; passed = refl; changed = sym (int_wrap_fits w128 (pos 0) (fits_signed_from_abs w128 (pos 0) (omega arith))) }

pub swept-more : (d : Dual) (x y z : Forces) (t c s : ℤ) (n : ℕ) → SweptSoFar d x y t n → HaveSamePlaces y z → IsHeld d z → forces z ≡ after_update (problem d) (forces y) n
    → None ≡ row_fault (problem d) (place d) (forces y) n → c ≡ int_wrap w128 (change_at (problem d) (forces y) n) → s ≡ int_wrap w128 (t +ℤ c) → SweptSoFar d x z s (n + 1)
unfolding change_at
swept-more d x y z t c s n so places held moved none change sum =
    let p = problem d in
    record {
      places = same-places x y z so.places places;
      held = held;
      swept = moved ∙ ap (λ (f : ℕ → ℤ). after_update p f n) so.swept ∙ sym (law.pass_more p (forces x) n);
      passed = pass_more n (λ i. row_fault p (place d) (pass p (forces x) i) i) so.passed (none ∙ ap (λ (f : ℕ → ℤ). row_fault p (place d) f n) so.swept);
      changed =
          sum ∙ ap₂ (λ a b. int_wrap w128 (a +ℤ b)) so.changed change
          ∙ int_wrap-add_left w128 (sum_to n (row_change p (forces x))) (int_wrap w128 (change_at p (forces y) n))
          ∙ int_wrap-add_right w128 (sum_to n (row_change p (forces x))) (change_at p (forces y) n)
          ∙ ap (λ a. int_wrap w128 (sum_to n (row_change p (forces x)) +ℤ a)) (ap (λ (f : ℕ → ℤ). change_at p f n) so.swept)
          ∙ ap (int_wrap w128) (sym (sum_to-more n (row_change p (forces x))));
    }

-- ---- and each that a solver takes
pub holds_zero : (d : Dual) → IsSolvable d → HoldsZero (problem d)
holds_zero d solvable =
    record {
      above = λ i h. zero_above ((problem d).low i) (solvable.each i h).low_bound;
      below = λ i h. zero_below ((problem d).high i) (solvable.each i h).high_bound;
    }

-- ---- what the cost falls by in a sweep
pub fall : (d : Dual) (x y : Forces) (t s : ℤ) → IsFeasible (problem d) (forces x) (pos 1) → cost (problem d) (forces x) (pos 1) ≤ℤ pos 0 → forces y ≡ sweep (problem d) (forces x)
    → pull_to (problem d) (forces y) d.m ≤ cost_limit → t ≡ int_wrap w128 (sum_to d.m (row_change (problem d) (forces x))) → s ≡ int_wrap w128 (neg_ℤ t)
    → s ≡ cost (problem d) (forces x) (pos 1) -ℤ cost (problem d) (forces y) (pos 1)
fall d x y t s feasible low swept pull total turned =
    let p = problem d in
    let grown : cost p (forces y) (pos 1) ≡ cost p (forces x) (pos 1) +ℤ sum_to d.m (row_change p (forces x)) = ap (λ (f : ℕ → ℤ). cost p f (pos 1)) swept ∙ law.pass_cost p (forces x) d.m (omega arith) in
    let falls : cost p (forces y) (pos 1) ≤ℤ cost p (forces x) (pos 1) = subst (λ (f : ℕ → ℤ). cost p f (pos 1) ≤ℤ cost p (forces x) (pos 1)) (sym swept) (law.pass_never_rises p (forces x) d.m (omega arith) feasible) in
    let least : neg_ℤ (pos (pull_to p (forces y) d.m)) ≤ℤ cost p (forces y) (pos 1) = cost_at_least p (forces y) (regular d) in
    turned ∙ unwrapped (cost p (forces x) (pos 1)) (cost p (forces y) (pos 1)) (sum_to d.m (row_change p (forces x))) t (pull_to p (forces y) d.m) grown falls low least pull total
  where
    unwrapped : (a b c t : ℤ) (k : ℕ) → b ≡ a +ℤ c → b ≤ℤ a → a ≤ℤ pos 0 → neg_ℤ (pos k) ≤ℤ b → k ≤ 2 ^ 124 → t ≡ int_wrap w128 c → int_wrap w128 (neg_ℤ t) ≡ a -ℤ b
    unwrapped a b c t k e h l m n w =
        let turned : neg_ℤ (int_wrap w128 c) ≡ pos 0 -ℤ int_wrap w128 c = omega (arith, ints) in
        let exact : pos 0 -ℤ c ≡ a -ℤ b = omega (arith, ints) in
        let fits : SFits w128 (a -ℤ b) = fits_signed_from_abs w128 (a -ℤ b) (omega (arith, ints)) in
        ap (λ z. int_wrap w128 (neg_ℤ z)) w ∙ ap (int_wrap w128) turned ∙ int_wrap-sub_right w128 (pos 0) c ∙ ap (int_wrap w128) exact ∙ int_wrap_fits w128 (a -ℤ b) fits

pub solved : (d : Dual) (x y : Forces) → IsFeasible (problem d) (forces x) (pos 1) → IsHeld d y → forces y ≡ sweep (problem d) (forces x) → weight_to (problem d) (forces y) d.m ≤ cost_limit → pull_to (problem d) (forces y) d.m ≤ cost_limit → IsSolved d y
solved d x y feasible held swept w t =
    record {
      feasible = subst (λ (f : ℕ → ℤ). IsFeasible (problem d) f (pos 1)) (sym swept) (law.pass_is_feasible (problem d) (forces x) d.m (omega arith) feasible);
      reached = held.reached;
      small = held.small;
      near = held.near;
      weight = w;
      pull = t;
    }
