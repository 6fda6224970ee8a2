-- What the applied forces of a state keep, for later parts of a step to rely on.
use Rattle.std.specs.Prelude.{ℕ, ◌^◌, ◌<◌, ◌≤◌, unsigned_abs, length}
use Rattle.mj_types.specs.declared.carriers.Applied.{Applied}
use Rattle.mj_types.specs.declared.model.Model.{Model}
use Rattle.mj_types.specs.Parts.{number_at}
use Rattle.mj_types.specs.Rooms.{AppliedRoom}

pub record AreApplied (m : Model) (a : Applied) : Type 0 where
  pub room : AppliedRoom m a
  pub tau : (d : ℕ) → d < m.nv → unsigned_abs (number_at a.tau d) ≤ 2 ^ 52
  pub length_ : (t : ℕ) → t < length m.tendons → unsigned_abs (number_at a.length t) ≤ 2 ^ 52
  pub rate : (t : ℕ) → t < length m.tendons → unsigned_abs (number_at a.rate t) ≤ 2 ^ 52
