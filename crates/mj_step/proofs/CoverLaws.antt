-- The radii and the residual of a step.
use Rattle.std.proofs.Common.{◌≡◌, ℕ, ◌*◌, ◌^◌, ◌<◌, ◌≤◌, true, pos, ◌-ℤ◌, ◌*ℤ◌, List, refl, arith, pow_pos, unsigned_abs}
use Rattle.std.proofs.lemmas.Bool.{cond-true}
use Rattle.mj_bias.specs.Movement.{movement_of}
use Rattle.mj_bias.proofs.CoverLaws.{bias_is_covered}
use Rattle.mj_factor.proofs.ReadLaws.{greatest-above}
use Rattle.mj_factor.specs.Residuals.{greatest_to, residual_at}
use Rattle.mj_inertia.specs.MassEntries.{mass, mass_radius, momentum_sum, momentum, momentum_radius, entry, rounded_radius, unrounded, joins}
use Rattle.mj_inertia.proofs.MassLaws.{entry_covers, lowered}
use Rattle.mj_kin.specs.Placings.{placing}
use Rattle.mj_types.specs.declared.model.Model.{Model}
use Rattle.mj_types.specs.declared.state.State.{State}
use Rattle.mj_types.specs.Control.{Control}
use Rattle.mj_types.specs.Parts.{number_at}
use Rattle.mj_step.specs.Covered.{mass_error, bias_error, motion_error}
use Rattle.mj_step.specs.Steps.{mass_of, mass_radius_of, bias_of, bias_radius_of, load, acceleration, residual_of, largest_mass_radius, largest_bias_radius}
use Rattle.mj_step.proofs.Radii.{wider}

-- an entry and its radius
covered : (m : Model) (s : State) (i j : ℕ) → joins m i j ≡ true
    → unsigned_abs (unrounded m (placing m s).column (placing m s).inertia i j -ℤ mass_of m s i j *ℤ pos (2 ^ 64)) ≤ mass_radius_of m s i j * 2 ^ 64
unfolding mass_of mass_radius_of mass mass_radius
covered m s i j t =
    let column = (placing m s).column in
    let inertia = (placing m s).inertia in
    let sum = momentum_sum m column inertia j in
    rw (cond-true (joins m i j) (entry m (column i) (momentum sum) i j) _ t, cond-true (joins m i j) (rounded_radius (column i) (momentum sum) (momentum_radius sum)) _ t)
    (lowered (unrounded m column inertia i j) (entry m (column i) (momentum sum) i j) (rounded_radius (column i) (momentum sum) (momentum_radius sum)) (2 ^ 40) (2 ^ 64) (2 ^ 104)
    (pow_pos 40) refl refl (entry_covers m column inertia i j).bound)

pub mass-covered : (m : Model) (s : State) (i j : ℕ) → i < m.nv → j < m.nv → joins m i j ≡ true → mass_error m s i j ≤ largest_mass_radius m s * 2 ^ 64
unfolding largest_mass_radius
mass-covered m s i j h k t =
    wider _ _ _ (2 ^ 64) (covered m s i j t)
    (let row = greatest-above m.nv (mass_radius_of m s i) j k in
    let all = greatest-above m.nv (λ a. greatest_to m.nv (mass_radius_of m s a)) i h in
    omega arith)

pub bias-covered : (m : Model) (s : State) (i : ℕ) → i < m.nv → bias_error m s i ≤ largest_bias_radius m s * 2 ^ 168
unfolding bias_of largest_bias_radius bias_radius_of
bias-covered m s i h = wider _ _ _ (2 ^ 168) (bias_is_covered (movement_of m (placing m s) (number_at s.v)) i) (greatest-above m.nv (bias_radius_of m s) i h)

pub residual-largest : (m : Model) (s : State) (u : List Control) (i : ℕ) → i < m.nv → motion_error m s u i ≤ residual_of m s u
unfolding residual_of
residual-largest m s u i h = greatest-above m.nv (residual_at m.nv (mass_of m s) (acceleration m s u) (load m s u)) i h
