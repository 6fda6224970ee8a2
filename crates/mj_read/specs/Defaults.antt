-- The defaults of the model format: raw values at scale 32, each the nearest to its numeral.
use Rattle.std.specs.Prelude.{ℤ, pos, negsuc, List, [], ◌∷◌}

-- 1
abbrev pub one : ℤ
one = pos 4294967296

-- 0 0 0
abbrev pub origin : List ℤ
origin = pos 0 ∷ pos 0 ∷ pos 0 ∷ []

-- 0 0 1
abbrev pub upward : List ℤ
upward = pos 0 ∷ pos 0 ∷ one ∷ []

-- 1 0 0 0
abbrev pub unturned : List ℤ
unturned = one ∷ pos 0 ∷ pos 0 ∷ pos 0 ∷ []

-- 0 0 -9.81
abbrev pub gravity : List ℤ
gravity = pos 0 ∷ pos 0 ∷ negsuc 42133629173 ∷ []

-- 0.002
abbrev pub timestep : ℤ
timestep = pos 8589935

-- 1e-8
abbrev pub tolerance : ℤ
tolerance = pos 43

-- 0.02 1
abbrev pub solref : List ℤ
solref = pos 85899346 ∷ one ∷ []

-- 0.9 0.95 0.001 0.5 2
abbrev pub solimp : List ℤ
solimp = pos 3865470566 ∷ pos 4080218931 ∷ pos 4294967 ∷ pos 2147483648 ∷ pos 8589934592 ∷ []

-- 0 1
abbrev pub polycoef : List ℤ
polycoef = pos 0 ∷ one ∷ []
