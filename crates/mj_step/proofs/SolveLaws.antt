-- A solve with the factor of a state's mass matrix.
use Rattle.std.proofs.Common.{◌≡◌, ℕ, ◌<◌, ℤ, pos, List, length, ap, ◌∙◌}
use Rattle.fx_whole.proofs.EntryLaws.{below-is}
use Rattle.mj_factor.specs.Factors.{lower, pivot}
use Rattle.mj_factor.specs.Solves.{solution, solve_fault}
use Rattle.mj_factor.specs.Stored.{entry}
use Rattle.mj_factor.proofs.ReadLaws.{solve_fault-reads, solution-reads}
use Rattle.mj_types.specs.declared.carriers.Factor.{Factor}
use Rattle.mj_types.specs.declared.model.Model.{Model}
use Rattle.mj_types.specs.declared.state.State.{State}
use Rattle.mj_types.specs.Control.{Control}
use Rattle.mj_types.specs.Forests.{above_in}
use Rattle.mj_types.specs.Parts.{number_at, plain}
use Rattle.mj_step.specs.Steps.{mass_of, solved, solved_fault}
use Rattle.mj_step.specs.Workspace.{HasFactor}

module _ (m : Model) (s : State) (f : Factor) (has : HasFactor m s f) (b : ℕ → ℤ) (x : List Control) (same : number_at x ≡ b) where
  pub solved_fault-is : solve_fault m.nv (entry (above_in m) f.l) (number_at f.d) (number_at x) ≡ solved_fault m s b
  solved_fault-is =
      solve_fault-reads m.nv _ (lower m.nv (mass_of m s)) _ (pivot m.nv (mass_of m s)) _ b has.lowers has.pivots (λ i p. ap (λ (g : ℕ → ℤ). g i) same)

  pub solved-is : (out : List Control) → length out ≡ m.nv
      → ((i : ℕ) → i < m.nv → number_at out i ≡ solution m.nv (entry (above_in m) f.l) (number_at f.d) (number_at x) i) → number_at out ≡ solved m s b
  solved-is out many each =
      below-is (λ (x : Control). x.mid) (plain (pos 0)) out m.nv (solution m.nv (lower m.nv (mass_of m s)) (pivot m.nv (mass_of m s)) b) many
      (λ i h. each i h
      ∙ solution-reads m.nv _ (lower m.nv (mass_of m s)) _ (pivot m.nv (mass_of m s)) _ b has.lowers has.pivots (λ i p. ap (λ (g : ℕ → ℤ). g i) same) i h)
