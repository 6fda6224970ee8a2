-- The ball of a step: its mass matrix is symmetric, and what is stored of it below n counts alone.
use Rattle.std.proofs.Common.{◌≡◌, ℕ, ◌^◌, ◌<◌, ◌≤◌, ℤ, unsigned_abs, List, refl, sym, ap₂, ◌∙◌}
use Rattle.mj_ball.specs.Shifts.{ball_of}
use Rattle.mj_ball.proofs.SameLaws.{ball-reads}
use Rattle.mj_ball.proofs.ShiftLaws.{ball_if_some}
use Rattle.mj_quadratic.specs.Forms.{IsSymmetric}
use Rattle.mj_types.specs.declared.carriers.Mass.{Mass}
use Rattle.mj_types.specs.declared.model.Model.{Model}
use Rattle.mj_types.specs.declared.state.State.{State}
use Rattle.mj_types.specs.Control.{Control}
use Rattle.mj_types.specs.Masses.{mass_at}
use Rattle.mj_types.specs.Parts.{number_at}
use Rattle.mj_step.specs.Steps.{mass_of, load, acceleration, ball_at}
use Rattle.mj_step.specs.Enclosed.{IsInBall}
use Rattle.mj_step.specs.Workspace.{HasMass, CanEnclose}
use Rattle.mj_step.proofs.MirrorLaws.{mass_of-symmetric}

symmetric : (m : Model) (s : State) → IsSymmetric m.nv (mass_of m s)
symmetric m s i j p q = mass_of-symmetric m s i j

pub can_enclose : (m : Model) (s : State) (x : Mass) (a : List Control) → HasMass m s x → ((i : ℕ) → i < m.nv → unsigned_abs (number_at a i) ≤ 2 ^ 56) → CanEnclose m x a
can_enclose m s x a has small = record {
  lawful = has.lawful;
  symmetric = λ i j p q. has.values i j p q ∙ symmetric m s i j p q ∙ sym (has.values j i q p);
  small = small;
}

module _ (m : Model) (s : State) (u : List Control) where
  -- the ball of what is stored is that of the step
  pub ball-is : (x : Mass) → HasMass m s x → (a b : List Control) → number_at a ≡ acceleration m s u → number_at b ≡ load m s u
      → ball_of m.nv (mass_at m.nv x.m) (number_at a) (number_at b) ≡ ball_at m s u
  unfolding ball_at
  ball-is x has a b solved right =
      ball-reads m.nv (mass_at m.nv x.m) (mass_of m s) has.values (number_at a) (number_at b)
      ∙ ap₂ (λ (f g : ℕ → ℤ). ball_of m.nv (mass_of m s) f g) solved right

  pub in_ball : IsInBall m s u
  unfolding ball_at
  in_ball = ball_if_some m.nv (mass_of m s) (symmetric m s) (acceleration m s u) (load m s u) _ refl
