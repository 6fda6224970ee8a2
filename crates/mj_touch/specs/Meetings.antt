-- Where two geoms meet: how far apart they are, a point half way between their surfaces, and the normal from the first to the second. MuJoCo documentation, Computation, collision detection: what a contact has; the rounding is this project's own.
use Rattle.std.specs.Prelude.{◌^◌, ◌≤◌, ℤ, pos, ◌+ℤ◌, neg_ℤ, unsigned_abs, int_lt, cond, Option, Some, None, IfSome}
use Rattle.fx_whole.specs.Nearest.{nearest}
use Rattle.fx_vec.specs.Vectors.{Triple}
use Rattle.fx_vec.specs.Settling.{moved}
use Rattle.fx_vec.specs.Sizes.{Within}
use Rattle.fx_vec.specs.Views.{mids}
use Rattle.mj_touch.specs.declared.touch.Touch.{Touch}
use Rattle.mj_touch.specs.declared.touch.Touches.{Touches}
use Rattle.mj_touch.specs.Solids.{IsDirection}

pub record Meeting : Type 0 where
  pub dist : ℤ
  pub point : Triple ℤ
  pub normal : Triple ℤ

-- at most two for a pair of geoms, in their order
pub record Meetings : Type 0 where
  pub first : Option Meeting
  pub second : Option Meeting

abbrev pub half_of : ℤ → ℤ
half_of n = nearest n (pos 2)

-- half way between the surface of the ball at c with radius r and what lies past it along n, at that distance from it
abbrev pub past : Triple ℤ → ℤ → Triple ℤ → ℤ → Meeting
past c r n dist = record { dist = dist; point = moved c n (r +ℤ half_of dist); normal = n }

-- and what lies before it, if n points to the ball
abbrev pub before : Triple ℤ → ℤ → Triple ℤ → ℤ → Meeting
before c r n dist = record { dist = dist; point = moved c n (neg_ℤ (r +ℤ half_of dist)); normal = n }

-- it counts where the distance is below the margin
abbrev pub standing : ℤ → Meeting → Option Meeting
standing margin m = cond (int_lt m.dist margin) (Some m) None

abbrev pub none_met : Meetings
none_met = record { first = None; second = None }

abbrev pub one_met : Option Meeting → Meetings
one_met m = record { first = m; second = None }

-- ---- what the code's touches stand for
abbrev pub meeting_of : Touch → Meeting
meeting_of t = record { dist = t.dist.mid; point = mids t.point; normal = mids t.normal }

abbrev pub met : Option Touch → Option Meeting
met None = None
met (Some t) = Some (meeting_of t)

abbrev pub meetings_of : Touches → Meetings
meetings_of t = record { first = met t.first; second = met t.second }

-- ---- ranges
pub record IsNear (t : Touch) : Type 0 where
  pub dist : unsigned_abs t.dist.mid ≤ 2 ^ 55
  pub point : Within (mids t.point) (2 ^ 55)
  pub normal : IsDirection (mids t.normal)

pub record AreNear (t : Touches) : Type 0 where
  pub first : IfSome t.first (λ t. IsNear t)
  pub second : IfSome t.second (λ t. IsNear t)
