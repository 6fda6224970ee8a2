-- What the forces of a step are worth: the dual of each state is lawful, so that its certificate holds.
use Rattle.std.proofs.Common.{◌≡◌, ℕ, ℤ, pos, List, sym, subst}
use Rattle.fx_whole.specs.Entries.{below}
use Rattle.fx_whole.proofs.EntryLaws.{below-within}
use Rattle.mj_force.specs.Enclosures.{IsEnclosed, force_of}
use Rattle.mj_force.proofs.EnclosureLaws.{enclosed}
use Rattle.mj_kin.specs.Placings.{placing}
use Rattle.mj_optimum.specs.Box.{lo, hi}
use Rattle.mj_optimum.specs.Enclosure.{BoxHolds, IsWithin}
use Rattle.mj_optimum.specs.Feasible.{HoldsZero}
use Rattle.mj_optimum.specs.Problem.{Problem, IsRegular}
use Rattle.mj_dual.proofs.LawfulLaws.{state_dual-regular, state_dual-zero}
use Rattle.mj_types.specs.declared.dual.Dual.{Dual}
use Rattle.mj_types.specs.declared.model.Model.{Model}
use Rattle.mj_types.specs.declared.rows.StepReport.{StepReport}
use Rattle.mj_types.specs.declared.state.State.{State}
use Rattle.mj_types.specs.Control.{Control}
use Rattle.mj_types.specs.StepValues.{StepValues, DualValues, values_of, dual_values}
use Rattle.mj_step.specs.Steps.{dynamics_of, tendon_lengths, constraints_at, dual_at, problem_at, force_at, step_values}
use Rattle.mj_step.specs.Certified.{IsCertified, HasCertificate}

regular : (m : Model) (s : State) (u : List Control) → IsRegular (problem_at m s u)
unfolding dual_at constraints_at
regular m s u = state_dual-regular m s (placing m s) (tendon_lengths m s) (dynamics_of m s u)

zero_held : (m : Model) (s : State) (u : List Control) → HoldsZero (problem_at m s u)
unfolding dual_at constraints_at
zero_held m s u = state_dual-zero m s (placing m s) (tendon_lengths m s) (dynamics_of m s u)

-- a box that is told of a problem's rows alone
box-told : (p : Problem) (f low high : ℕ → ℤ) → BoxHolds p f low high → BoxHolds p f (below (pos 0) p.m low) (below (pos 0) p.m high)
box-told p f low high holds n d some feasible costs i h =
    let within : IsWithin (low i) (high i) (n i) d = holds n d some feasible costs i h in
    rw (below-within (pos 0) p.m low i h, below-within (pos 0) p.m high i h) within

pub certified : (m : Model) (s : State) (u : List Control) → IsCertified m s u
unfolding force_at
certified m s u =
    let p = problem_at m s u in
    let e = enclosed p m.tolerance.mid m.iterations (regular m s u) (zero_held m s u) in
    record {
      feasible = e.feasible;
      bound_holds = e.bound_holds;
      box_holds = box-told p (force_of p m.tolerance.mid m.iterations) (lo p (force_of p m.tolerance.mid m.iterations)) (hi p (force_of p m.tolerance.mid m.iterations)) e.box_holds;
    }

-- so are a dual and a report that tell what the step tells
pub told-certified : (m : Model) (s : State) (u : List Control) (next : State) (d : Dual) (r : StepReport) → dual_values d ≡ dual_at m s u → values_of next r ≡ step_values m s u
    → HasCertificate d r
told-certified m s u next d r same told =
    subst (λ (p : DualValues). IsEnclosed p.problem (values_of next r).force (values_of next r).bound (values_of next r).lo (values_of next r).hi) (sym same)
    (subst (λ (v : StepValues). IsEnclosed (problem_at m s u) v.force v.bound v.lo v.hi) (sym told) (certified m s u))
