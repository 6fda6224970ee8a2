-- The parameters of a contact, mixed from those of its two geoms. MuJoCo documentation, XML reference, geom: friction and condim are the
-- larger, and solref and solimp are mixed; the rounding is this project's own.
use Rattle.std.specs.Prelude.{ℕ, ◌+◌, ◌-◌, ◌/◌, ◌==◌, nat_lt, Bool, ◌&&◌, cond, ℤ, pos, ◌+ℤ◌}
use Rattle.std.specs.Int.{int_min}
use Rattle.fx_whole.specs.Nearest.{nearest}
use Rattle.fx_num.specs.declared.number.Number.{Number}
use Rattle.mj_types.specs.declared.carriers.Contact.{Contact}
use Rattle.mj_types.specs.declared.model.Model.{Model}
use Rattle.mj_types.specs.declared.parts.Geom.{Geom}
use Rattle.mj_types.specs.declared.parts.Soft.{Soft}
use Rattle.mj_types.specs.Lawful.{has_positive_form}
use Rattle.mj_types.specs.Parts.{plain, geom}
use Rattle.mj_contact.specs.Lists.{larger}

-- ---- the two geoms
abbrev pub first_geom : Model → Contact → Geom
first_geom m c = geom m.geoms (c.a - 1)

abbrev pub second_geom : Model → Contact → Geom
second_geom m c = geom m.geoms (c.b - 1)

-- ---- the two together
abbrev pub friction : Geom → Geom → ℤ
friction a b = larger a.friction.mid b.friction.mid

-- 1 where neither has friction, else 3
abbrev pub dimension : Geom → Geom → ℕ
dimension a b = cond (nat_lt a.condim b.condim) b.condim a.condim

abbrev pub is_frictionless : Geom → Geom → Bool
is_frictionless a b = dimension a b == 1

-- the mean of two numbers, and the smaller
abbrev pub mean : {F : ℕ} → Number (Unit {0}) F → Number (Unit {0}) F → Number (Unit {0}) F
mean x y = plain (nearest (x.mid +ℤ y.mid) (pos 2))

abbrev pub smaller : {F : ℕ} → Number (Unit {0}) F → Number (Unit {0}) F → Number (Unit {0}) F
smaller x y = plain (int_min x.mid y.mid)

-- solref's numbers are mixed by their mean where both geoms have a time constant and a damping ratio
abbrev pub are_timed : Soft → Soft → Bool
are_timed s t = has_positive_form s && has_positive_form t

abbrev pub mixed_reference : Bool → Number (Unit {0}) 32 → Number (Unit {0}) 32 → Number (Unit {0}) 32
mixed_reference timed x y = cond timed (mean x y) (smaller x y)

-- the mean of two powers drops a half, as that of two numbers does
abbrev pub mixed : Soft → Soft → Soft
mixed s t = record {
  tc = mixed_reference (are_timed s t) s.tc t.tc;
  dr = mixed_reference (are_timed s t) s.dr t.dr;
  dmin = mean s.dmin t.dmin;
  dmax = mean s.dmax t.dmax;
  width = mean s.width t.width;
  mid = mean s.mid t.mid;
  power = (s.power + t.power) / 2;
}
