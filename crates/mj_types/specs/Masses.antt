-- What a mass matrix holds, as a function of two dofs, and what later parts of a step rely on.
use Rattle.std.specs.Prelude.{◌≡◌, ℕ, ◌+◌, ◌*◌, ◌^◌, ◌<◌, ◌≤◌, false, ℤ, pos, unsigned_abs, List, length, slice_index_or}
use Rattle.fx_num.specs.declared.number.Number.{Number}
use Rattle.mj_types.specs.declared.carriers.Mass.{Mass}
use Rattle.mj_types.specs.declared.model.Model.{Model}
use Rattle.mj_types.specs.Forests.{above_in}

abbrev pub no_near : {F : ℕ} → Number ℕ F
no_near = record { mid = pos 0; rad = 0 }

-- row i and column j of a matrix of width n that is kept row after row, and the radius there
abbrev pub mass_at : ℕ → List (Number ℕ 40) → ℕ → ℕ → ℤ
mass_at n xs i j = (slice_index_or xs (i * n + j) no_near).mid

abbrev pub mass_radius_at : ℕ → List (Number ℕ 40) → ℕ → ℕ → ℕ
mass_radius_at n xs i j = (slice_index_or xs (i * n + j) no_near).rad

-- a mass matrix of a model: an entry is 0 where no dof of the two is above the other
pub record IsMass (m : Model) (x : Mass) : Type 0 where
  pub room : length x.m ≡ m.nv * m.nv
  pub limit : (i j : ℕ) → i < m.nv → j < m.nv → unsigned_abs (mass_at m.nv x.m i j) ≤ 2 ^ 60
  pub apart : (k i : ℕ) → k < m.nv → i < k → above_in m i k ≡ false → mass_at m.nv x.m k i ≡ pos 0
