-- What the carriers of a step give for its separated forces, and which can be taken.
use Rattle.std.specs.Prelude.{◌≡◌, ℕ, ◌-◌, ◌*◌, ◌^◌, ◌<◌, ◌≤◌, ℤ, unsigned_abs, List, length}
use Rattle.mj_types.specs.declared.carriers.Mass.{Mass}
use Rattle.mj_types.specs.declared.dual.Dual.{Dual}
use Rattle.mj_types.specs.declared.dual.DualRow.{DualRow}
use Rattle.mj_types.specs.declared.dual.Forces.{Forces}
use Rattle.mj_types.specs.declared.rows.Rows.{Rows}
use Rattle.mj_types.specs.Control.{Control}
use Rattle.mj_types.specs.Duals.{bound, bound_at, entry_at, wide_at}
use Rattle.mj_types.specs.Masses.{mass_at}
use Rattle.mj_types.specs.Parts.{number_at}
use Rattle.mj_types.specs.Problems.{problem, place, forces}
use Rattle.mj_optimum.specs.Feasible.{HoldsZero}
use Rattle.mj_inverse.specs.Rows.{Motion, RowProblem}
use Rattle.mj_inverse.specs.Separated.{Given}

-- the accelerations
abbrev pub motion_of : List Control → List Control → Motion
motion_of smooth accel = record { dofs = length accel; smooth = number_at smooth; accel = number_at accel }

-- row k of the dual: its Jacobian stands in the list of rows
abbrev pub jacobian_of : ℕ → Rows → Dual → ℕ → ℕ → ℤ
jacobian_of nv rows d k = entry_at nv rows.jac.list (place d k - 1)

-- a row of a Jacobian, and what a dual holds of it beside
abbrev pub row_problem : DualRow → (ℕ → ℤ) → RowProblem
row_problem row j = record { place = row.place; jacobian = j; b = row.b.mid; r = row.r.raw; low = bound row.low; high = bound row.high }

abbrev pub row_of : ℕ → Rows → Dual → ℕ → RowProblem
row_of nv rows d k = record {
  place = place d k;
  jacobian = jacobian_of nv rows d k;
  b = number_at d.b k;
  r = wide_at d.r k;
  low = bound_at d.low k;
  high = bound_at d.high k;
}

abbrev pub given_of : Dual → Rows → Forces → List Control → List Control → Mass → List Control → Given
given_of d rows x smooth accel mass free = record {
  motion = motion_of smooth accel;
  rows = d.m;
  row = row_of (length accel) rows d;
  force = forces x;
  mass = mass_at (length accel) mass.m;
  free_load = number_at free;
}

-- ---- the rows of the dual stand in the list of rows, each Jacobian in its range
pub record AreListed (nv : ℕ) (rows : Rows) (d : Dual) : Type 0 where
  pub few : nv ≤ 64
  pub some_place : (k : ℕ) → k < d.m → 1 ≤ place d k
  pub place_there : (k : ℕ) → k < d.m → place d k * nv ≤ length rows.jac.list
  pub small : (k i : ℕ) → k < d.m → i < nv → unsigned_abs (entry_at nv rows.jac.list (place d k - 1) i) ≤ 2 ^ 48

-- what the forces ask for: 0 is within the bounds of each row
pub record CanSeparate (rows : Rows) (d : Dual) (smooth accel : List Control) : Type 0 where
  pub listed : AreListed (length accel) rows d
  pub smooth_width : length smooth ≡ length accel
  pub smooth_small : (i : ℕ) → i < length accel → unsigned_abs (number_at smooth i) ≤ 2 ^ 56
  pub accel_small : (i : ℕ) → i < length accel → unsigned_abs (number_at accel i) ≤ 2 ^ 56
  pub zero : HoldsZero (problem d)

-- what the loads ask for beside
pub record CanLoad (mass : Mass) (accel free : List Control) : Type 0 where
  pub free_width : length free ≡ length accel
  pub free_small : (i : ℕ) → i < length accel → unsigned_abs (number_at free i) ≤ 2 ^ 54
  pub accel_small : (i : ℕ) → i < length accel → unsigned_abs (number_at accel i) ≤ 2 ^ 56
  pub mass_room : length mass.m ≡ length accel * length accel
  pub mass_small : (i j : ℕ) → i < length accel → j < length accel → unsigned_abs (mass_at (length accel) mass.m i j) ≤ 2 ^ 60
