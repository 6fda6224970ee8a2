-- The forces and the certificate that a report holds are those of the state.
use Rattle.std.proofs.Common.{◌≡◌, ℕ, ◌^◌, ◌<◌, ◌≤◌, ℤ, pos, unsigned_abs, List, ap, ◌∙◌, subst, arith}
use Rattle.mj_force.specs.Enclosures.{force_of}
use Rattle.mj_optimum.specs.Box.{lo, hi}
use Rattle.mj_optimum.specs.Cost.{cost}
use Rattle.mj_optimum.specs.Shortfall.{bound2}
use Rattle.mj_optimum.specs.Stop.{stop_of}
use Rattle.mj_types.specs.declared.dual.Dual.{Dual}
use Rattle.mj_types.specs.declared.dual.Forces.{Forces}
use Rattle.mj_types.specs.declared.model.Model.{Model}
use Rattle.mj_types.specs.declared.rows.StepReport.{StepReport}
use Rattle.mj_types.specs.declared.state.State.{State}
use Rattle.mj_types.specs.Control.{Control}
use Rattle.mj_types.specs.Parts.{number_at}
use Rattle.mj_types.specs.Problems.{forces}
use Rattle.mj_types.specs.Solved.{IsSolved}
use Rattle.mj_types.specs.StepValues.{DualValues, dual_values}
use Rattle.mj_step.specs.Steps.{dual_at, problem_at, force_at}
use Rattle.mj_step.specs.Workspace.{HasForces}

-- forces that solve a dual, where both are copied
pub solved-same : (d d' : Dual) (x x' : Forces) → d' ≡ d → x' ≡ x → IsSolved d x → IsSolved d' x'
solved-same d d' x x' e f h = rw (e, f) h

module _ (m : Model) (s : State) (u : List Control) (d : Dual) (same : dual_values d ≡ dual_at m s u) where
  -- what the solver leaves for the dual is the state's
  force-is : force_of (dual_values d).problem m.tolerance.mid m.iterations ≡ force_at m s u
  unfolding force_at
  force-is = ap (λ (v : DualValues). force_of v.problem m.tolerance.mid m.iterations) same

  count-is : d.m ≡ (problem_at m s u).m
  count-is = ap (λ (v : DualValues). v.problem.m) same

  pub forces-are : (r : StepReport)
      → r.stop ≡ stop_of (dual_values d).problem m.tolerance.mid m.iterations
      → forces r.forces ≡ force_of (dual_values d).problem m.tolerance.mid m.iterations
      → r.cert.cost2 ≡ cost (dual_values d).problem (force_of (dual_values d).problem m.tolerance.mid m.iterations) (pos 1)
      → r.cert.bound2 ≡ bound2 (dual_values d).problem (force_of (dual_values d).problem m.tolerance.mid m.iterations)
      → ((i : ℕ) → i < d.m → number_at r.cert.lo i ≡ lo (dual_values d).problem (force_of (dual_values d).problem m.tolerance.mid m.iterations) i)
      → ((i : ℕ) → i < d.m → number_at r.cert.hi i ≡ hi (dual_values d).problem (force_of (dual_values d).problem m.tolerance.mid m.iterations) i)
      → ((k : ℕ) → k < d.m → unsigned_abs (forces r.forces k) ≤ 2 ^ 50)
      → HasForces m s u r
  forces-are r stop force cost_ bound_ low high small = record {
    stop = stop ∙ ap (λ (v : DualValues). stop_of v.problem m.tolerance.mid m.iterations) same;
    force = force ∙ force-is;
    cost = cost_ ∙ ap (λ (f : ℕ → ℤ). cost (dual_values d).problem f (pos 1)) force-is ∙ ap (λ (v : DualValues). cost v.problem (force_at m s u) (pos 1)) same;
    bound = bound_ ∙ ap (bound2 (dual_values d).problem) force-is ∙ ap (λ (v : DualValues). bound2 v.problem (force_at m s u)) same;
    low = λ i h. low i (omega (arith, count-is, h)) ∙ ap (λ (f : ℕ → ℤ). lo (dual_values d).problem f i) force-is ∙ ap (λ (v : DualValues). lo v.problem (force_at m s u) i) same;
    high = λ i h. high i (omega (arith, count-is, h)) ∙ ap (λ (f : ℕ → ℤ). hi (dual_values d).problem f i) force-is ∙ ap (λ (v : DualValues). hi v.problem (force_at m s u) i) same;
    small = λ k h. subst (λ (f : ℕ → ℤ). unsigned_abs (f k) ≤ 2 ^ 50) (force ∙ force-is) (small k (omega (arith, count-is, h)));
  }
