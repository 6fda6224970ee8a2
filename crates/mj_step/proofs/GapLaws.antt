-- How far the bound that a step tells is below its cost: by the sum of the shortfalls, which is in its range.
use Rattle.std.proofs.Common.{◌≡◌, ℕ, zero, suc, ◌^◌, ◌≤◌, ℤ, pos, ◌-ℤ◌, ◌*ℤ◌, ◌≤ℤ◌, unsigned_abs, List, None, arith}
use Rattle.std.proofs.lemmas.Int.{ints}
use Rattle.fx_whole.specs.First.{first_to, refusal_of}
use Rattle.fx_whole.proofs.FirstLaws.{or_both, first_none}
use Rattle.mj_cert.specs.Certificate.{shortfall_fault, box_fault, certificate_fault}
use Rattle.mj_factor.proofs.RangeLaws.{limited_within}
use Rattle.mj_force.specs.Enclosures.{force_of, enclosure_fault}
use Rattle.mj_optimum.specs.Cost.{cost}
use Rattle.mj_optimum.specs.Limits.{shortfall_limit, shortfall_to}
use Rattle.mj_optimum.specs.Problem.{Problem}
use Rattle.mj_optimum.specs.Shortfall.{total_shortfall, bound2}
use Rattle.mj_pgs.specs.Answer.{answer}
use Rattle.mj_types.specs.declared.dual.Cert.{Cert}
use Rattle.mj_types.specs.declared.model.Model.{Model}
use Rattle.mj_types.specs.declared.range.Quantity.TheVariants as kind
use Rattle.mj_types.specs.declared.state.State.{State}
use Rattle.mj_types.specs.Control.{Control}
use Rattle.mj_step.specs.Steps.{dual_at, problem_at, force_at, force_fault, step_values}
use Rattle.mj_step.specs.Workspace.{HasGap}
use Rattle.mj_step.proofs.CertifiedLaws.{certified}

-- the sum of all shortfalls, where none of the sums on the way is out of range
shortfall-small : (p : Problem) (place : ℕ → ℕ) (f : ℕ → ℤ) (n : ℕ) → first_to n (shortfall_fault p place f) ≡ None → unsigned_abs (shortfall_to p f n) ≤ 2 ^ 124
shortfall-small p place f zero none = omega arith
shortfall-small p place f (suc n) none =
    limited_within kind.Shortfall (place n) shortfall_limit (shortfall_to p f (suc n)) ((first_none (suc n) (shortfall_fault p place f)).0 none n (omega arith))

total-small : (m : Model) (s : State) (u : List Control) → force_fault m s u ≡ None → unsigned_abs (total_shortfall (problem_at m s u) (force_at m s u)) ≤ 2 ^ 124
unfolding force_fault enclosure_fault force_at total_shortfall
total-small m s u none =
    let d = dual_at m s u in
    let f = force_of d.problem m.tolerance.mid m.iterations in
    let both = or_both (refusal_of (answer d.problem d.place m.tolerance.mid m.iterations)) (certificate_fault d.problem d.place f) none in
    let falls = or_both (first_to d.problem.m (shortfall_fault d.problem d.place f)) (first_to d.problem.m (box_fault d.problem d.place f)) both.1 in
    shortfall-small d.problem d.place f d.problem.m falls.0

less-less : (x y : ℤ) → x -ℤ (x -ℤ y) ≡ y
less-less x y = omega (arith, ints)

one-one : (x y : ℤ) → ((pos 1 *ℤ pos 1) *ℤ x) ≤ℤ y → x ≤ℤ y
one-one x y h = omega (arith, ints, h)

pub gap-small : (m : Model) (s : State) (u : List Control) (c : Cert) → force_fault m s u ≡ None → c.cost2 ≡ (step_values m s u).cost → c.bound2 ≡ (step_values m s u).bound → HasGap c
gap-small m s u c none cost_ bound_ =
    let p = problem_at m s u in
    let f = force_at m s u in
    let e = certified m s u in
    record {
      order = rw (cost_, bound_) (one-one (bound2 p f) (cost p f (pos 1)) (e.bound_holds f (pos 1) (omega (arith, ints)) e.feasible));
      near = rw (cost_, bound_, less-less (cost p f (pos 1)) (total_shortfall p f)) (total-small m s u none);
    }
