-- Capsules: the balls on two axes that come nearest to one another. These closest points, one contact for each pair, and the rounding are this project's own.
use Rattle.std.specs.Prelude.{◌^◌, ◌≤◌, ℤ, pos, ◌+ℤ◌, ◌-ℤ◌, ◌*ℤ◌, neg_ℤ, unsigned_abs, int_lt, cond}
use Rattle.fx_whole.specs.Nearest.{nearest}
use Rattle.fx_num.specs.Settled.{settled_mid}
use Rattle.fx_vec.specs.Vectors.{Triple, minus}
use Rattle.fx_vec.specs.Settling.{moved, along}
use Rattle.mj_touch.specs.Solids.{Solid}
use Rattle.mj_touch.specs.Meetings.{Meeting, Meetings, standing, one_met}
use Rattle.mj_touch.specs.Balls.{balls}

-- n held from -most to most
abbrev pub held : ℤ → ℤ → ℤ
held most n = cond (int_lt n (neg_ℤ most)) (neg_ℤ most) (cond (int_lt most n) most n)

-- ---- a sphere and a capsule: the capsule's ball is where the sphere's centre falls on its axis
abbrev pub foot : Solid → Triple ℤ → ℤ
foot b c = held b.half (along b.axis (minus c b.center))

abbrev pub sphere_capsule : Solid → Solid → ℤ → Meetings
sphere_capsule a b margin = one_met (standing margin (balls a.center a.radius (moved b.center b.axis (foot b a.center)) b.radius))

-- ---- two capsules, of whose axes u is the cosine; d goes from the first centre to the second, p along the first axis and q along the second
-- the sine's square, at scale 64
abbrev pub spread : ℤ → ℤ
spread u = pos (2 ^ 64) -ℤ u *ℤ u

-- where on the first line it comes nearest to the second; p where they are nearly parallel
unfoldable pub nearest_place : ℤ → ℤ → ℤ → ℤ
nearest_place u p q = cond (int_lt (pos (2 ^ 44)) (spread u)) (nearest ((p *ℤ pos (2 ^ 32) -ℤ u *ℤ q) *ℤ pos (2 ^ 32)) (spread u)) p

-- u k, rounded
abbrev pub shared : ℤ → ℤ → ℤ
shared u k = settled_mid (u *ℤ k) 32

-- the place on the second axis that is nearest to that one, for axes of the half lengths h and l
unfoldable pub second_place : ℤ → ℤ → ℤ → ℤ → ℤ → ℤ
second_place u p q h l = held l (shared u (held h (nearest_place u p q)) -ℤ q)

-- and then the place on the first that is nearest to the place t on the second
unfoldable pub first_place : ℤ → ℤ → ℤ → ℤ → ℤ
first_place u p h t = held h (p +ℤ shared u t)

-- of two capsules
abbrev pub cosine : Solid → Solid → ℤ
cosine a b = along a.axis b.axis

abbrev pub on_first : Solid → Solid → ℤ
on_first a b = along a.axis (minus b.center a.center)

abbrev pub on_second : Solid → Solid → ℤ
on_second a b = along b.axis (minus b.center a.center)

abbrev pub place_on_second : Solid → Solid → ℤ
place_on_second a b = second_place (cosine a b) (on_first a b) (on_second a b) a.half b.half

abbrev pub place_on_first : Solid → Solid → ℤ
place_on_first a b = first_place (cosine a b) (on_first a b) a.half (place_on_second a b)

abbrev pub capsules : Solid → Solid → Meeting
capsules a b = balls (moved a.center a.axis (place_on_first a b)) a.radius (moved b.center b.axis (place_on_second a b)) b.radius

abbrev pub capsule_capsule : Solid → Solid → ℤ → Meetings
capsule_capsule a b margin = one_met (standing margin (capsules a b))

-- ---- ranges of u, p and q
pub record AreLines (u p q : ℤ) : Type 0 where
  pub cosine : unsigned_abs u ≤ 2 ^ 36
  pub first : unsigned_abs p ≤ 2 ^ 51
  pub second : unsigned_abs q ≤ 2 ^ 51
