-- Products and quotients of numbers at scale 32, each rounded once. A rule of this project's own.
use Rattle.std.specs.Prelude.{◌^◌, ℤ, pos, ◌*ℤ◌}
use Rattle.fx_whole.specs.Nearest.{nearest}
use Rattle.fx_num.specs.Settled.{settled_mid}

-- 1 at scale 32
abbrev pub one : ℤ
one = pos (2 ^ 32)

-- an exact sum of products at scale 64, rounded to scale 32
abbrev pub round : ℤ → ℤ
round n = settled_mid n 32

-- a b
abbrev pub times : ℤ → ℤ → ℤ
times a b = round (a *ℤ b)

-- n / d
abbrev pub over : ℤ → ℤ → ℤ
over n d = nearest (n *ℤ one) d
