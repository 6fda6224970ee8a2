-- Solref and solimp (MuJoCo documentation, Computation, solver parameters), within this project's limits.
use Rattle.std.specs.Prelude.{ℕ, ◌^◌, ◌/◌, ◌%◌, ◌==◌, ℤ, pos, Bool, ◌&&◌, ◌||◌, nat_le, int_le, int_lt, unsigned_abs, if◌then◌else◌, List, Ok, Err}
use Rattle.mj_types.specs.Parts.{plain}
use Rattle.mj_types.specs.declared.parts.Soft.{Soft}
use Rattle.mj_types.specs.declared.status.ModelCode.TheVariants as code
use Rattle.mj_judge.specs.declared.softness.Solref.{Solref}
use Rattle.mj_judge.specs.declared.softness.Solimp.{Solimp}
use Rattle.mj_form.specs.Reading.{Read, ◌>>=◌, at_key}
use Rattle.mj_judge.specs.Judged.{Judged}
pub use Rattle.mj_judge.specs.Numbers.{Fix, entry, is_between}

abbrev pub reference_of : List (Fix 32) → Solref
reference_of xs = record { tc = entry xs 0; dr = entry xs 1 }

-- a time constant and a damping ratio, both from 2^-12 to 1024
abbrev pub is_positive : Solref → Bool
is_positive r = int_le (pos (2 ^ 20)) r.tc.mid && (int_le r.tc.mid (pos (2 ^ 42)) && (int_le (pos (2 ^ 20)) r.dr.mid && int_le r.dr.mid (pos (2 ^ 42))))

-- minus a stiffness and minus a damping, both at most 2^20
abbrev pub is_direct : Solref → Bool
is_direct r = int_le r.tc.mid (pos 0) && (nat_le (unsigned_abs r.tc.mid) (2 ^ 52) && (int_le r.dr.mid (pos 0) && nat_le (unsigned_abs r.dr.mid) (2 ^ 52)))

-- solref: one of the two forms
unfoldable pub reference : List (Fix 32) → Judged Solref
reference xs = if is_positive (reference_of xs) || is_direct (reference_of xs) then Ok (reference_of xs) else Err code.BadSolref

-- an impedance between 0.0001 and 0.9999, the nearer of them where it is outside
abbrev pub clamped : Fix 32 → Fix 32
clamped x = if int_lt x.mid (pos 429497) then plain (pos 429497) else (if int_lt (pos 4294537799) x.mid then plain (pos 4294537799) else x)

-- a width from 2^-32 to 1024, and a power that is a whole number from 1 to 5
abbrev pub is_width : ℤ → Bool
is_width n = is_between (pos 1) (pos (2 ^ 42)) n

abbrev pub power_of : ℤ → ℕ
power_of n = unsigned_abs n / 2 ^ 32

abbrev pub is_power : ℤ → Bool
is_power n = int_le (pos 0) n && (unsigned_abs n % 2 ^ 32 == 0 && (nat_le 1 (power_of n) && nat_le (power_of n) 5))

abbrev pub impedance_of : List (Fix 32) → Solimp
impedance_of xs = record { dmin = clamped (entry xs 0); dmax = clamped (entry xs 1); width = entry xs 2; mid = clamped (entry xs 3); power = power_of (entry xs 4).mid }

-- solimp
unfoldable pub impedance : List (Fix 32) → Judged Solimp
impedance xs = if is_width (entry xs 2).mid && is_power (entry xs 4).mid then Ok (impedance_of xs) else Err code.BadSolimp

-- both together
abbrev pub soft : Solref → Solimp → Soft
soft r i = record { tc = r.tc; dr = r.dr; dmin = i.dmin; dmax = i.dmax; width = i.width; mid = i.mid; power = i.power }

-- the two keys, one after the other
unfoldable pub soft_at : List ℕ → List (Fix 32) → List ℕ → List (Fix 32) → Read Soft
soft_at first xs second ys = do
  r ← at_key first (reference xs)
  i ← at_key second (impedance ys)
  Ok (soft r i)
