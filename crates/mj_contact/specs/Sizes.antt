-- How large the numbers of contacts are, and which frames they can be found in. A rule of this project's own.
use Rattle.std.specs.Prelude.{ℕ, ◌^◌, ◌<◌, ◌≤◌, unsigned_abs, List, length, All}
use Rattle.fx_vec.specs.Sizes.{Within}
use Rattle.fx_vec.specs.Views.{mids}
use Rattle.mj_quat.specs.Rotation.{IsUnit}
use Rattle.mj_types.specs.declared.model.Model.{Model}
use Rattle.mj_types.specs.declared.carriers.Frames.{Frames}
use Rattle.mj_types.specs.declared.carriers.Contact.{Contact}
use Rattle.mj_types.specs.Placed.{quaternion_at}
use Rattle.mj_touch.specs.Solids.{IsDirection}

-- each geom's orientation is a unit
pub record AreUnits (m : Model) (f : Frames) : Type 0 where
  pub each : (g : ℕ) → g < length m.geoms → IsUnit (quaternion_at f.gquat g)

-- of a model with that many geoms
pub record IsUsable (count : ℕ) (c : Contact) : Type 0 where
  pub some_a : 1 ≤ c.a
  pub there_a : c.a ≤ count
  pub some_b : 1 ≤ c.b
  pub there_b : c.b ≤ count
  pub dist_ : unsigned_abs c.dist.mid ≤ 2 ^ 55
  pub point_ : Within (mids c.point) (2 ^ 55)
  pub normal_ : IsDirection (mids c.normal)
  pub t1_ : IsDirection (mids c.t1)
  pub t2_ : Within (mids c.t2) (2 ^ 34)

abbrev pub AreUsable : ℕ → List Contact → Type 0
AreUsable count cs = All (IsUsable count) cs
