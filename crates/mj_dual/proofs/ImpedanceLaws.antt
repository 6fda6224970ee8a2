-- The impedance lies between dmin and dmax, whatever the violation is: each share that it is made of is from 0 to 1.
use Rattle.std.proofs.Common.{ℕ, zero, suc, ℤ, pos, ◌-ℤ◌, ◌<ℤ◌, ◌≤ℤ◌, unsigned_abs, refl, arith}
use Rattle.std.specs.Prelude.{int_le}
use Rattle.std.proofs.lemmas.Bool.{cond_both}
use Rattle.std.proofs.lemmas.Int.{ints, clamps}
use Rattle.mj_optimum.proofs.Tests.{int_le_true, int_le_false}
use Rattle.mj_types.specs.declared.parts.Soft.{Soft}
use Rattle.mj_types.specs.Lawful.{IsSoft}
use Rattle.mj_imp.specs.Impedance.{one, over, pw, depth, to_midpoint, past_midpoint, sigmoid, impedance, LiesBetween}
use Rattle.mj_imp.proofs.ShareLaws.{over_between, over_nonneg, times_between, between_both}

abbrev IsShare : ℤ → Type 0
IsShare x = (pos 0 ≤ℤ x) × (x ≤ℤ one)

pw-share : (q : ℤ) (k : ℕ) → IsShare q → IsShare (pw q k)
unfolding pw
pw-share q zero h = (omega (arith, ints), omega (arith, ints))
pw-share q (suc zero) h = h
pw-share q (suc (suc k)) h =
    let p = pw-share q (suc k) h in
    let t = times_between (pw q (suc k)) q p.0 h.0 h.1 in
    (t.0, omega (arith, ints, t.1, p.1))

depth-share : (width r : ℤ) → pos 0 <ℤ width → IsShare (depth width r)
depth-share width r h =
    let p = over_nonneg (pos (unsigned_abs r)) width h (omega (arith, ints)) in
    (omega (arith, ints, clamps, p), omega (arith, ints, clamps))

-- ---- the sigmoid, on both sides of the midpoint
to_midpoint-share : (mid x : ℤ) (power : ℕ) → pos 0 <ℤ mid → mid ≤ℤ one → pos 0 ≤ℤ x → x ≤ℤ mid → IsShare (to_midpoint mid power x)
to_midpoint-share mid x power some small low high =
    let p = pw-share (over x mid) power (over_between x mid some low high) in
    let t = times_between mid (pw (over x mid) power) (omega (arith, ints)) p.0 p.1 in
    (t.0, omega (arith, ints, t.1))

past_midpoint-share : (mid x : ℤ) (power : ℕ) → pos 0 ≤ℤ mid → mid <ℤ one → mid ≤ℤ x → x ≤ℤ one → IsShare (past_midpoint mid power x)
past_midpoint-share mid x power some small low high =
    let q = over (one -ℤ x) (one -ℤ mid) in
    let p = pw-share q power (over_between (one -ℤ x) (one -ℤ mid) (omega (arith, ints)) (omega (arith, ints)) (omega (arith, ints))) in
    let t = times_between (one -ℤ mid) (pw q power) (omega (arith, ints)) p.0 p.1 in
    (omega (arith, ints, t.1), omega (arith, ints, t.0))

sigmoid-share : (mid x : ℤ) (power : ℕ) → pos 0 <ℤ mid → mid <ℤ one → IsShare x → IsShare (sigmoid mid power x)
sigmoid-share mid x power some small h =
    cond_both (int_le x mid) (to_midpoint mid power x) (past_midpoint mid power x) IsShare
    (λ e. to_midpoint-share mid x power some (omega (arith, ints)) h.0 (int_le_true x mid e))
    (λ e. let past = int_le_false x mid e in past_midpoint-share mid x power (omega (arith, ints)) small (omega (arith, ints, past)) h.1)

-- ---- the impedance
pub impedance-between : (s : Soft) (r : ℤ) → IsSoft s → LiesBetween s.dmin.mid s.dmax.mid (impedance s r)
impedance-between s r h =
    let x = depth s.width.mid r in
    let y = sigmoid s.mid.mid s.power x in
    let deep = depth-share s.width.mid r (omega (arith, ints, h.some_width)) in
    let p = sigmoid-share s.mid.mid x s.power (omega (arith, ints, h.midpoint.least)) (omega (arith, ints, h.midpoint.most)) deep in
    between_both s.dmin.mid s.dmax.mid y (impedance s r) p.0 p.1 refl

pub impedance-some : (s : Soft) (d : ℤ) → IsSoft s → LiesBetween s.dmin.mid s.dmax.mid d → pos 0 <ℤ d
impedance-some s d h between = omega (arith, ints, clamps, between.low, h.dmin.least, h.dmax.least)
