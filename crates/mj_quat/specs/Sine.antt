-- Sine and cosine of an angle at scale 32, in integers, each at scale 32: this project's own, by quarter turns and two power series.
use Rattle.std.specs.Prelude.{ℕ, zero, suc, ◌+◌, ◌*◌, ◌^◌, ℤ, pos, ◌-ℤ◌, ◌*ℤ◌, neg_ℤ, unsigned_abs, ◌==◌, if◌then◌else◌}
use Rattle.std.specs.Int.{int_rem_euclid}
use Rattle.fx_whole.specs.Nearest.{nearest}
use Rattle.fx_whole.specs.Sums.{sum_to}

-- a quarter turn, at scale 61
abbrev pub quarter_turn : ℤ
quarter_turn = pos 3622009729038561421

-- an angle at scale 61
abbrev pub fine : ℤ → ℤ
fine x = x *ℤ pos (2 ^ 29)

-- how many quarter turns are nearest to it
abbrev pub quarters : ℤ → ℤ
quarters x = nearest (fine x) quarter_turn

-- what is left of it, at scale 60
abbrev pub rest : ℤ → ℤ
rest x = nearest (fine x -ℤ quarters x *ℤ quarter_turn) (pos 2)

-- the square of a number at scale 60
abbrev pub square : ℤ → ℤ
square t = nearest (t *ℤ t) (pos (2 ^ 60))

-- one term after another: minus the last one times z, divided by m
abbrev pub next_term : ℤ → ℤ → ℕ → ℤ
next_term a z m = neg_ℤ (nearest (a *ℤ z) (pos (m * 2 ^ 60)))

-- the terms of the sine of t, where z is the square of t: t, - t^3 / 3!, t^5 / 5!, ..
unfoldable pub sine_term : ℤ → ℤ → ℕ → ℤ
sine_term t z zero = t
sine_term t z (suc n) = next_term (sine_term t z n) z ((2 * n + 2) * (2 * n + 3))

-- the terms of the cosine: 1, - t^2 / 2!, t^4 / 4!, ..
unfoldable pub cosine_term : ℤ → ℕ → ℤ
cosine_term z zero = pos (2 ^ 60)
cosine_term z (suc n) = next_term (cosine_term z n) z ((2 * n + 1) * (2 * n + 2))

-- nine terms of each, at scale 60
unfoldable pub sine_sum : ℤ → ℤ
sine_sum t = sum_to 9 (sine_term t (square t))

unfoldable pub cosine_sum : ℤ → ℤ
cosine_sum t = sum_to 9 (cosine_term (square t))

-- and these at scale 32: the sine and the cosine of t
abbrev pub rest_sine : ℤ → ℤ
rest_sine t = nearest (sine_sum t) (pos (2 ^ 28))

abbrev pub rest_cosine : ℤ → ℤ
rest_cosine t = nearest (cosine_sum t) (pos (2 ^ 28))

-- k modulo 4, from 0 to 3
abbrev pub quadrant : ℤ → ℕ
quadrant k = unsigned_abs (int_rem_euclid k (pos 4))

-- the sine and the cosine some quarter turns past an angle whose sine is s and whose cosine is c
abbrev pub quadrant_sine : ℕ → ℤ → ℤ → ℤ
quadrant_sine quadrant s c = if quadrant == 0 then s else (if quadrant == 1 then c else (if quadrant == 2 then neg_ℤ s else neg_ℤ c))

abbrev pub quadrant_cosine : ℕ → ℤ → ℤ → ℤ
quadrant_cosine quadrant s c = if quadrant == 0 then c else (if quadrant == 1 then neg_ℤ s else (if quadrant == 2 then neg_ℤ c else s))

-- k quarter turns past t
abbrev pub sine_at : ℤ → ℤ → ℤ
sine_at k t = quadrant_sine (quadrant k) (rest_sine t) (rest_cosine t)

abbrev pub cosine_at : ℤ → ℤ → ℤ
cosine_at k t = quadrant_cosine (quadrant k) (rest_sine t) (rest_cosine t)

-- the sine and the cosine of the angle x
unfoldable pub sine : ℤ → ℤ
sine x = sine_at (quarters x) (rest x)

unfoldable pub cosine : ℤ → ℤ
cosine x = cosine_at (quarters x) (rest x)
