-- What passes a test of a range.
use Rattle.std.proofs.Common.{◌≡◌, ℕ, Bool, true, false, None, refl}
use Rattle.mj_types.specs.declared.range.Quantity.{Quantity}
use Rattle.mj_types.specs.Ranges.{unless}

-- what isn't refused is good
pub no_fault : (good : Bool) (what : Quantity) (index : ℕ) → unless good what index ≡ None → good ≡ true
no_fault true what index h = refl
no_fault false what index h = cc
