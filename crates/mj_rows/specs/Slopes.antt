-- The working room of one contact.
use Rattle.std.specs.Prelude.{◌≡◌, ℕ, ◌^◌, ◌<◌, ℤ, pos, List, slice_index_or, length}
use Rattle.fx_vec.specs.Vectors.{Triple}
use Rattle.fx_vec.specs.Sizes.{Within}
use Rattle.fx_vec.specs.Views.{mids}
use Rattle.mj_types.specs.declared.carriers.Contact.{Contact}
use Rattle.mj_types.specs.declared.model.Model.{Model}
use Rattle.mj_types.specs.Parts.{plain}
use Rattle.mj_types.specs.Placed.{Placing}
use Rattle.mj_rows.specs.declared.levers.Exact.{Exact}
use Rattle.mj_rows.specs.declared.slopes.Slope.{Slope}
use Rattle.mj_rows.specs.Edges.{lever_of, slope_along}

-- ---- how each dof moves the two geoms of a contact apart
abbrev pub no_slope : Slope
no_slope = record { normal = plain (pos 0); first = plain (pos 0); second = plain (pos 0) }

abbrev pub slope_at : List Slope → ℕ → Slope
slope_at slopes d = slice_index_or slopes d no_slope

-- along its normal and its two tangents, and no lever's velocity is out of range
pub record IsSlope (m : Model) (x : Placing) (c : Contact) (d : ℕ) (s : Slope) : Type 0 where
  pub near : Within (lever_of m x c d) (2 ^ 48)
  pub normal_ : s.normal.mid ≡ slope_along m x c (mids c.normal) d
  pub first_ : s.first.mid ≡ slope_along m x c (mids c.t1) d
  pub second_ : s.second.mid ≡ slope_along m x c (mids c.t2) d

pub record AreSlopes (m : Model) (x : Placing) (c : Contact) (n : ℕ) (slopes : List Slope) : Type 0 where
  pub room : length slopes ≡ 64
  pub each : (d : ℕ) → d < n → IsSlope m x c d (slope_at slopes d)

-- ---- a vector before its numbers are judged
abbrev pub exact : Exact → Triple ℤ
exact v = record { x = v.x.raw; y = v.y.raw; z = v.z.raw }
