-- The impedance of a constraint by its solimp: it goes from dmin to dmax, along two powers that meet at the midpoint, as the violation grows to the width. MuJoCo documentation, Computation, solver parameters; the rounding is this project's own.
use Rattle.std.specs.Prelude.{ℕ, zero, suc, ◌^◌, ℤ, pos, ◌+ℤ◌, ◌-ℤ◌, ◌*ℤ◌, ◌≤ℤ◌, int_le, unsigned_abs, cond}
use Rattle.std.specs.Int.{int_min, int_max}
use Rattle.fx_whole.specs.Nearest.{nearest}
use Rattle.mj_types.specs.declared.parts.Soft.{Soft}

-- 1 at scale 32
abbrev pub one : ℤ
one = pos (2 ^ 32)

-- a b at scale 32
abbrev pub times : ℤ → ℤ → ℤ
times a b = nearest (a *ℤ b) one

-- a / b at scale 32
abbrev pub over : ℤ → ℤ → ℤ
over a b = nearest (a *ℤ one) b

-- q to the power k
unfoldable pub pw : ℤ → ℕ → ℤ
pw q zero = one
pw q (suc zero) = q
pw q (suc (suc k)) = times (pw q (suc k)) q

-- how far into the width a violation of r is: 1 from the width on
abbrev pub depth : ℤ → ℤ → ℤ
depth width r = int_min one (over (pos (unsigned_abs r)) width)

-- the sigmoid from 0 to 1, at the depth x
abbrev pub to_midpoint : ℤ → ℕ → ℤ → ℤ
to_midpoint mid power x = times mid (pw (over x mid) power)

abbrev pub past_midpoint : ℤ → ℕ → ℤ → ℤ
past_midpoint mid power x = one -ℤ times (one -ℤ mid) (pw (over (one -ℤ x) (one -ℤ mid)) power)

abbrev pub sigmoid : ℤ → ℕ → ℤ → ℤ
sigmoid mid power x = cond (int_le x mid) (to_midpoint mid power x) (past_midpoint mid power x)

-- the impedance at a violation of r
abbrev pub impedance : Soft → ℤ → ℤ
impedance s r = s.dmin.mid +ℤ times (sigmoid s.mid.mid s.power (depth s.width.mid r)) (s.dmax.mid -ℤ s.dmin.mid)

-- between a and b, whichever is the larger
pub record LiesBetween (a b n : ℤ) : Type 0 where
  pub low : int_min a b ≤ℤ n
  pub high : n ≤ℤ int_max a b
