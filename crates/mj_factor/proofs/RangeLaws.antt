-- What is in its range where there is no fault.
use Rattle.std.proofs.Common.{◌≡◌, ℕ, ◌+◌, ◌^◌, ◌≤◌, ℤ, unsigned_abs, None}
use Rattle.std.proofs.lemmas.Bool.{leb-true}
use Rattle.fx_whole.proofs.FirstLaws.{or_both}
use Rattle.mj_types.specs.declared.range.Quantity.{Quantity}
use Rattle.mj_types.specs.declared.range.Quantity.TheVariants as kind
use Rattle.mj_types.specs.Ranges.{limited, is_within}
use Rattle.mj_types.proofs.RangeLaws.{no_fault}
use Rattle.mj_factor.specs.Factors.{entry_fault}

pub limited_within : (what : Quantity) (index limit : ℕ) (n : ℤ) → limited what index limit n ≡ None → unsigned_abs n ≤ limit
limited_within what index limit n h = leb-true (unsigned_abs n) limit (no_fault (is_within limit n) what index h)

pub entry_within : (k : ℕ) (w l : ℤ) → entry_fault k w l ≡ None → (unsigned_abs w ≤ 2 ^ 60) × (unsigned_abs l ≤ 2 ^ 48)
entry_within k w l h =
    let both = or_both (limited kind.Lower (k + 1) (2 ^ 60) w) (limited kind.Lower (k + 1) (2 ^ 48) l) h in
    (limited_within kind.Lower (k + 1) (2 ^ 60) w both.0, limited_within kind.Lower (k + 1) (2 ^ 48) l both.1)
