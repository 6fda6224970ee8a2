-- A plane with a ball and with a capsule. MuJoCo documentation, Computation: collision with planes; the rounding is this project's own.
use Rattle.std.specs.Prelude.{ℤ, ◌-ℤ◌, neg_ℤ}
use Rattle.fx_vec.specs.Vectors.{Triple, minus}
use Rattle.fx_vec.specs.Settling.{moved, along}
use Rattle.mj_touch.specs.Solids.{Solid}
use Rattle.mj_touch.specs.Meetings.{Meeting, Meetings, before, standing, one_met}

-- how far the ball at c with radius r is above the plane through p with the normal n
abbrev pub height : Triple ℤ → Triple ℤ → Triple ℤ → ℤ → ℤ
height p n c r = along n (minus c p) -ℤ r

unfoldable pub plane_ball : Triple ℤ → Triple ℤ → Triple ℤ → ℤ → Meeting
plane_ball p n c r = before c r n (height p n c r)

abbrev pub plane_sphere : Solid → Solid → ℤ → Meetings
plane_sphere a b margin = one_met (standing margin (plane_ball a.center a.axis b.center b.radius))

-- the ball at the end of the axis first, then that at its start
abbrev pub plane_capsule : Solid → Solid → ℤ → Meetings
plane_capsule a b margin = record {
  first = standing margin (plane_ball a.center a.axis (moved b.center b.axis b.half) b.radius);
  second = standing margin (plane_ball a.center a.axis (moved b.center b.axis (neg_ℤ b.half)) b.radius);
}
