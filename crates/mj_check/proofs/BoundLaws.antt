-- Laws of the texts of a row's bounds.
use Rattle.std.proofs.Common.{◌≡◌, ℕ, ℤ, pos, Bool, true, false, List, ◌++◌, codes, Option, Some, None, refl}
use Rattle.fx_num.specs.declared.number.Wide.{Wide}
use Rattle.mj_trace.specs.Block.{bound_text}
use Rattle.mj_reading.specs.Reading.{NoNumber, optional_text}
use Rattle.mj_check.specs.declared.rows.Bounds.{Bounds}
use Rattle.mj_check.specs.Rows.{raw_bound, AreBounds, bounds_line}

-- a bound's text is a space and a number, or a mark
pub bound-told : (x : Option (Wide 0)) → bound_text (raw_bound x) ≡ codes " " ++ optional_text x
bound-told None = refl
bound-told (Some x) = refl

pub bound-before : (x : Option ℤ) (behind : List ℕ) → NoNumber (bound_text x ++ behind)
bound-before None behind = refl
bound-before (Some n) behind = refl

pub bounds-before : (tells : Bool) (x : Bounds) (behind : List ℕ) → NoNumber behind → NoNumber (bounds_line tells x ++ behind)
bounds-before true x behind b = refl
bounds-before false x behind b = b

pub same-bounds : {x w : Bounds} → x.low ≡ w.low → x.high ≡ w.high → x ≡ w
same-bounds a b = λ i. record { low = a i; high = b i }

-- the bounds of format 1
abbrev pub untold : Bounds
untold = record { low = Some (record { raw = pos 0 }); high = None }

pub untold-only : (w : Bounds) → AreBounds false w → w ≡ untold
untold-only w h = same-bounds h.0 h.1
