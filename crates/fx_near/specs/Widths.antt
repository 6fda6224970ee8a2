-- The radii of numbers that carry one: each error is bounded at the scale where it arises, divided, and rounded up.
use Rattle.std.specs.Prelude.{ℕ, ◌+◌, ◌-◌, ◌*◌, ◌^◌, ℤ, pos, ◌-ℤ◌, ◌*ℤ◌, unsigned_abs}
use Rattle.fx_whole.specs.Least.{ceil_div}
use Rattle.fx_whole.specs.Nearest.{nearest}
use Rattle.fx_whole.specs.Roots.{isqrt}

-- of a sum of this width that is rounded by 2^shift and loses `lost`: (width + lost) / 2^shift
abbrev pub settled_radius : ℕ → ℕ → ℕ → ℕ
settled_radius width lost shift = ceil_div (width + lost) (2 ^ shift)

-- the quotient of a by b at scale f: a 2^f / b, rounded
abbrev pub quotient_mid : ℕ → ℤ → ℤ → ℤ
quotient_mid f a b = nearest (a *ℤ pos (2 ^ f)) b

-- of the quotient of a, off by at most ra, by b, off by at most rb < b: (ra 2^f + |m| rb + |a 2^f - m b|) / (b - rb), for the middle m
abbrev pub quotient_radius : ℕ → ℤ → ℕ → ℤ → ℕ → ℕ
quotient_radius f a ra b rb = ceil_div (ra * 2 ^ f + unsigned_abs (quotient_mid f a b) * rb + unsigned_abs (a *ℤ pos (2 ^ f) -ℤ quotient_mid f a b *ℤ b)) (unsigned_abs b - rb)

-- the root of a at scale f: the whole root of a 2^f
abbrev pub root_mid : ℕ → ℤ → ℤ
root_mid f a = isqrt (a *ℤ pos (2 ^ f))

-- of the root of a, off by at most ra < a: (ra 2^f + a 2^f - m^2) / m, for the middle m
abbrev pub root_radius : ℕ → ℤ → ℕ → ℕ
root_radius f a ra = ceil_div (ra * 2 ^ f + unsigned_abs (a *ℤ pos (2 ^ f) -ℤ root_mid f a *ℤ root_mid f a)) (unsigned_abs (root_mid f a))
