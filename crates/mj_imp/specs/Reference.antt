-- The acceleration that a constraint asks for by its solref, -b (J v) - k d r. MuJoCo documentation, Computation, solver parameters; the rounding and the limits are this project's own.
use Rattle.std.specs.Prelude.{◌^◌, ℤ, pos, ◌-ℤ◌, ◌*ℤ◌, neg_ℤ, ◌≤ℤ◌, cond, Option}
use Rattle.fx_whole.specs.Nearest.{nearest}
use Rattle.fx_whole.specs.First.{or_first}
use Rattle.fx_num.specs.Settled.{over_value}
use Rattle.fx_num.specs.declared.carry.Over.{Over}
use Rattle.mj_types.specs.declared.parts.Soft.{Soft}
use Rattle.mj_types.specs.Lawful.{has_positive_form}
use Rattle.mj_imp.specs.Impedance.{times, over}

-- ---- solref is a time constant and a damping ratio: b = 2 / (dmax tc) and k = 1 / (dmax tc dr)^2
abbrev pub timed_damping : Soft → ℤ
timed_damping s = nearest (pos (2 ^ 97)) (s.dmax.mid *ℤ s.tc.mid)

-- the root of k
abbrev pub frequency : Soft → ℤ
frequency s = nearest (pos (2 ^ 80)) (nearest (s.dmax.mid *ℤ s.tc.mid *ℤ s.dr.mid) (pos (2 ^ 48)))

-- k x, by its root
abbrev pub timed_pull : Soft → ℤ → ℤ
timed_pull s x = times (frequency s) (times (frequency s) x)

abbrev pub timed_pull_over : Soft → ℤ → Option Over
timed_pull_over s x =
    or_first (over_value (2 ^ 44) (frequency s)) (or_first
    (over_value (2 ^ 56) (times (frequency s) x))
    (over_value (2 ^ 54) (timed_pull s x)))

-- ---- solref is a stiffness and a damping, both negated: b = -dr / dmax and k = -tc / dmax^2
abbrev pub direct_damping : Soft → ℤ
direct_damping s = over (neg_ℤ s.dr.mid) s.dmax.mid

-- k dmax
abbrev pub half_stiffness : Soft → ℤ
half_stiffness s = over (neg_ℤ s.tc.mid) s.dmax.mid

abbrev pub stiffness : Soft → ℤ
stiffness s = over (half_stiffness s) s.dmax.mid

-- k x
abbrev pub direct_pull : Soft → ℤ → ℤ
direct_pull s x = times (stiffness s) x

abbrev pub direct_pull_over : Soft → ℤ → Option Over
direct_pull_over s x =
    or_first (over_value (2 ^ 60) (half_stiffness s)) (or_first
    (over_value (2 ^ 60) (stiffness s))
    (over_value (2 ^ 54) (direct_pull s x)))

-- ---- both forms: b, and k x
abbrev pub damping : Soft → ℤ
damping s = cond (has_positive_form s) (timed_damping s) (direct_damping s)

abbrev pub pull : Soft → ℤ → ℤ
pull s x = cond (has_positive_form s) (timed_pull s x) (direct_pull s x)

abbrev pub pull_over : Soft → ℤ → Option Over
pull_over s x = cond (has_positive_form s) (timed_pull_over s x) (direct_pull_over s x)

-- for a constraint of impedance d that is violated by r and moves at jv
abbrev pub reference : Soft → ℤ → ℤ → ℤ → ℤ
reference s d r jv = neg_ℤ (times (damping s) jv) -ℤ pull s (times d r)

-- the first of its numbers that passes its limit
abbrev pub reference_over : Soft → ℤ → ℤ → ℤ → Option Over
reference_over s d r jv =
    or_first (over_value (2 ^ 52) (damping s)) (or_first
    (pull_over s (times d r))
    (over_value (2 ^ 54) (reference s d r jv)))

-- ---- the numbers of each form
pub record IsTimed (s : Soft) : Type 0 where
  pub some_time : pos (2 ^ 20) ≤ℤ s.tc.mid
  pub time : s.tc.mid ≤ℤ pos (2 ^ 42)
  pub some_ratio : pos (2 ^ 20) ≤ℤ s.dr.mid
  pub ratio : s.dr.mid ≤ℤ pos (2 ^ 42)

pub record IsDirect (s : Soft) : Type 0 where
  pub stiffness_ : s.tc.mid ≤ℤ pos 0
  pub stiff : neg_ℤ (pos (2 ^ 52)) ≤ℤ s.tc.mid
  pub damping_ : s.dr.mid ≤ℤ pos 0
  pub damped : neg_ℤ (pos (2 ^ 52)) ≤ℤ s.dr.mid
