-- What the radii and the residual that a step tells are worth.
use Rattle.std.specs.Prelude.{◌≡◌, ℕ, ◌*◌, ◌^◌, ◌<◌, ◌≤◌, pos, ◌-ℤ◌, ◌*ℤ◌, true, unsigned_abs, List}
use Rattle.mj_bias.specs.Exact.{exact_bias}
use Rattle.mj_factor.specs.Residuals.{residual_at}
use Rattle.mj_inertia.specs.MassEntries.{joins, unrounded}
use Rattle.mj_kin.specs.Placings.{placing}
use Rattle.mj_types.specs.declared.model.Model.{Model}
use Rattle.mj_types.specs.declared.state.State.{State}
use Rattle.mj_types.specs.Control.{Control}
use Rattle.mj_types.specs.Parts.{number_at}
use Rattle.mj_step.specs.Steps.{mass_of, bias_of, load, acceleration, residual_of, largest_mass_radius, largest_bias_radius}

-- what rounding did to entry i, j of the mass matrix, at scale 104: from the same columns and inertias
abbrev pub mass_error : Model → State → ℕ → ℕ → ℕ
mass_error m s i j =
    unsigned_abs (unrounded m (placing m s).column (placing m s).inertia i j -ℤ mass_of m s i j *ℤ pos (2 ^ 64))

-- and to bias force i, at scale 200: from the same columns, inertias, velocities and gravity
abbrev pub bias_error : Model → State → ℕ → ℕ
bias_error m s i = unsigned_abs (exact_bias m (placing m s) (number_at s.v) i -ℤ bias_of m s i *ℤ pos (2 ^ 168))

-- the exact error of row i of M a = tau - c + J^T f, at scale 72
abbrev pub motion_error : Model → State → List Control → ℕ → ℕ
motion_error m s u = residual_at m.nv (mass_of m s) (acceleration m s u) (load m s u)

-- the radii cover what rounding did, and the residual the error of each row
pub record IsCovered (m : Model) (s : State) (u : List Control) : Type 0 where
  pub mass : (i j : ℕ) → i < m.nv → j < m.nv → joins m i j ≡ true → mass_error m s i j ≤ largest_mass_radius m s * 2 ^ 64
  pub bias : (i : ℕ) → i < m.nv → bias_error m s i ≤ largest_bias_radius m s * 2 ^ 168
  pub residual : (i : ℕ) → i < m.nv → motion_error m s u i ≤ residual_of m s u
