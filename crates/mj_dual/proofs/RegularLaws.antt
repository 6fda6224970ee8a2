-- The regularizer of a row that isn't idle is above 0, and bounds that hold 0 are bounds.
use Rattle.std.proofs.Common.{◌^◌, Bool, true, false, ◌&&◌, ℤ, pos, ◌-ℤ◌, ◌*ℤ◌, ◌<ℤ◌, ◌≤ℤ◌, unsigned_abs, IsTrue, Option, Some, None, subst, arith, rules}
use Rattle.std.specs.Prelude.{int_le, nat_le}
use Rattle.std.proofs.lemmas.Int.{ints, clamps}
use Rattle.fx_whole.proofs.NearestLaws.{nearest-mono, nearest-multiple}
use Rattle.fx_whole.proofs.Ring.{mul_mono_both}
use Rattle.mj_types.specs.declared.parts.Soft.{Soft}
use Rattle.mj_types.specs.Duals.{is_high, is_low, is_in_range}
use Rattle.mj_types.specs.Lawful.{IsSoft}
use Rattle.mj_imp.specs.Impedance.{one, LiesBetween}
use Rattle.mj_dual.specs.Actives.{regularizer}

pub impedance_high : (s : Soft) (d : ℤ) → IsSoft s → LiesBetween s.dmin.mid s.dmax.mid d → d ≤ℤ pos 4294537799
impedance_high s d soft between = omega (arith, ints, clamps, between.high, soft.dmin.most, soft.dmax.most)

pub regular : (diag d : ℤ) → pos (2 ^ 28) ≤ℤ diag → pos 0 <ℤ d → d ≤ℤ pos 4294537799 → pos 1 ≤ℤ regularizer diag d
regular diag d some positive high =
    let p = mul_mono_both (pos (2 ^ 28)) diag (pos 429497) (one -ℤ d) (omega (arith, ints)) some (omega (arith, ints)) (omega (arith, ints)) in
    subst (λ z. z ≤ℤ regularizer diag d) (nearest-multiple (pos 1) d positive)
    (nearest-mono (pos 1 *ℤ d) (diag *ℤ (one -ℤ d)) d (omega (arith, ints, p)))

second_of : (a b : Bool) → IsTrue (a && b) → IsTrue b
second_of true b h = h
second_of false b h = absurd (search rules)

pub low_in_range : (x : Option ℤ) → IsTrue (is_low x) → IsTrue (is_in_range x)
low_in_range None h = h
low_in_range (Some x) h = second_of (int_le x (pos 0)) (nat_le (unsigned_abs x) (2 ^ 50)) h

pub high_in_range : (x : Option ℤ) → IsTrue (is_high x) → IsTrue (is_in_range x)
high_in_range None h = h
high_in_range (Some x) h = second_of (int_le (pos 0) x) (nat_le (unsigned_abs x) (2 ^ 50)) h
