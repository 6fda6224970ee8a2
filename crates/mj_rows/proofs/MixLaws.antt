-- The softness of two geoms, mixed, is a softness.
use Rattle.std.proofs.Common.{◌≡◌, ℕ, ◌+◌, ◌/◌, ◌^◌, ◌≤◌, Bool, true, false, ◌&&◌, ◌||◌, ℤ, pos, ◌+ℤ◌, ◌*ℤ◌, ◌≤ℤ◌, unsigned_abs, refl, ap, subst, arith, inl, inr}
use Rattle.std.specs.Prelude.{int_le, nat_le}
use Rattle.std.specs.Int.{int_min}
use Rattle.std.proofs.lemmas.Bool.{and_parts, and_from, and_cases, or_cases, leb-true, le-leb}
use Rattle.std.proofs.lemmas.Int.{ints, clamps}
use Rattle.fx_whole.specs.Nearest.{nearest}
use Rattle.fx_whole.proofs.NearestLaws.{nearest-mono, nearest-multiple}
use Rattle.fx_whole.proofs.Ring.{*ℤ-pos_two}
use Rattle.fx_num.specs.declared.number.Number.{Number}
use Rattle.mj_types.specs.declared.parts.Soft.{Soft}
use Rattle.mj_types.specs.Lawful.{IsSoft, IsImpedance, has_positive_form, has_direct_form}
use Rattle.mj_rows.specs.Mixing.{mean, smaller, are_timed, mixed_reference, mixed}

int_le_true : (a b : ℤ) → int_le a b ≡ true → a ≤ℤ b
int_le_true a b e = grind (arith, ints)

int_le_from : (a b : ℤ) → a ≤ℤ b → int_le a b ≡ true
int_le_from a b h = grind (arith, ints)

-- ---- a mean lies between the two
pub mean-least : (x y n : ℤ) → n ≤ℤ x → n ≤ℤ y → n ≤ℤ nearest (x +ℤ y) (pos 2)
mean-least x y n h k =
    subst (λ (z : ℤ). z ≤ℤ nearest (x +ℤ y) (pos 2)) (nearest-multiple n (pos 2) (omega (arith, ints)))
    (nearest-mono (n *ℤ pos 2) (x +ℤ y) (pos 2) (omega (arith, ints, *ℤ-pos_two n)))

pub mean-most : (x y n : ℤ) → x ≤ℤ n → y ≤ℤ n → nearest (x +ℤ y) (pos 2) ≤ℤ n
mean-most x y n h k =
    subst (λ (z : ℤ). nearest (x +ℤ y) (pos 2) ≤ℤ z) (nearest-multiple n (pos 2) (omega (arith, ints)))
    (nearest-mono (x +ℤ y) (n *ℤ pos 2) (pos 2) (omega (arith, ints, *ℤ-pos_two n)))

-- ---- the two forms of solref
record IsTimed (tc dr : ℤ) : Type 0 where
  some_time : pos (2 ^ 20) ≤ℤ tc
  time : tc ≤ℤ pos (2 ^ 42)
  some_ratio : pos (2 ^ 20) ≤ℤ dr
  ratio : dr ≤ℤ pos (2 ^ 42)

record IsDirect (tc dr : ℤ) : Type 0 where
  stiffness : tc ≤ℤ pos 0
  stiff : unsigned_abs tc ≤ 2 ^ 52
  damping : dr ≤ℤ pos 0
  damped : unsigned_abs dr ≤ 2 ^ 52

abbrev positive : ℤ → ℤ → Bool
positive tc dr = int_le (pos (2 ^ 20)) tc && (int_le tc (pos (2 ^ 42)) && (int_le (pos (2 ^ 20)) dr && int_le dr (pos (2 ^ 42))))

abbrev direct : ℤ → ℤ → Bool
direct tc dr = int_le tc (pos 0) && (nat_le (unsigned_abs tc) (2 ^ 52) && (int_le dr (pos 0) && nat_le (unsigned_abs dr) (2 ^ 52)))

timed_of : (tc dr : ℤ) → positive tc dr ≡ true → IsTimed tc dr
timed_of tc dr e =
    let a = and_parts (int_le (pos (2 ^ 20)) tc) _ e in
    let b = and_parts (int_le tc (pos (2 ^ 42))) _ a.1 in
    let c = and_parts (int_le (pos (2 ^ 20)) dr) (int_le dr (pos (2 ^ 42))) b.1 in
    record {
      some_time = int_le_true (pos (2 ^ 20)) tc a.0;
      time = int_le_true tc (pos (2 ^ 42)) b.0;
      some_ratio = int_le_true (pos (2 ^ 20)) dr c.0;
      ratio = int_le_true dr (pos (2 ^ 42)) c.1;
    }

direct_of : (tc dr : ℤ) → direct tc dr ≡ true → IsDirect tc dr
direct_of tc dr e =
    let a = and_parts (int_le tc (pos 0)) _ e in
    let b = and_parts (nat_le (unsigned_abs tc) (2 ^ 52)) _ a.1 in
    let c = and_parts (int_le dr (pos 0)) (nat_le (unsigned_abs dr) (2 ^ 52)) b.1 in
    record {
      stiffness = int_le_true tc (pos 0) a.0;
      stiff = leb-true (unsigned_abs tc) (2 ^ 52) b.0;
      damping = int_le_true dr (pos 0) c.0;
      damped = leb-true (unsigned_abs dr) (2 ^ 52) c.1;
    }

from_timed : (tc dr : ℤ) → IsTimed tc dr → (positive tc dr || direct tc dr) ≡ true
from_timed tc dr h =
    let p : positive tc dr ≡ true =
    and_from (int_le (pos (2 ^ 20)) tc) _ (int_le_from (pos (2 ^ 20)) tc h.some_time)
    (and_from (int_le tc (pos (2 ^ 42))) _ (int_le_from tc (pos (2 ^ 42)) h.time)
    (and_from (int_le (pos (2 ^ 20)) dr) (int_le dr (pos (2 ^ 42))) (int_le_from (pos (2 ^ 20)) dr h.some_ratio) (int_le_from dr (pos (2 ^ 42)) h.ratio))) in
    ap (λ (b : Bool). b || direct tc dr) p

or_last : (a b : Bool) → b ≡ true → (a || b) ≡ true
or_last true b e = refl
or_last false b e = e

from_direct : (tc dr : ℤ) → IsDirect tc dr → (positive tc dr || direct tc dr) ≡ true
from_direct tc dr h =
    or_last (positive tc dr) (direct tc dr)
    (and_from (int_le tc (pos 0)) _ (int_le_from tc (pos 0) h.stiffness)
    (and_from (nat_le (unsigned_abs tc) (2 ^ 52)) _ (le-leb (unsigned_abs tc) (2 ^ 52) h.stiff)
    (and_from (int_le dr (pos 0)) (nat_le (unsigned_abs dr) (2 ^ 52)) (int_le_from dr (pos 0) h.damping) (le-leb (unsigned_abs dr) (2 ^ 52) h.damped))))

-- in either form the numbers are at most 2^52 in size
pub small_tc : (s : Soft) → IsSoft s → unsigned_abs s.tc.mid ≤ 2 ^ 52
small_tc s h =
    elim (or_cases (has_positive_form s) (has_direct_form s) h.reference) [
      | inl e ↦ (let t = timed_of s.tc.mid s.dr.mid e in omega (arith, ints, t.some_time, t.time))
      | inr e ↦ (direct_of s.tc.mid s.dr.mid e).stiff
    ]

pub small_dr : (s : Soft) → IsSoft s → unsigned_abs s.dr.mid ≤ 2 ^ 52
small_dr s h =
    elim (or_cases (has_positive_form s) (has_direct_form s) h.reference) [
      | inl e ↦ (let t = timed_of s.tc.mid s.dr.mid e in omega (arith, ints, t.some_ratio, t.ratio))
      | inr e ↦ (direct_of s.tc.mid s.dr.mid e).damped
    ]

-- what isn't timed is direct
other_form : (s : Soft) → IsSoft s → has_positive_form s ≡ false → IsDirect s.tc.mid s.dr.mid
other_form s h e =
    elim (or_cases (has_positive_form s) (has_direct_form s) h.reference) [
      | inl p ↦ cc
      | inr p ↦ direct_of s.tc.mid s.dr.mid p
    ]

-- the smaller of a number of a direct form and another
smaller_direct : (x y : ℤ) → x ≤ℤ pos 0 → unsigned_abs x ≤ 2 ^ 52 → unsigned_abs y ≤ 2 ^ 52 → (int_min x y ≤ℤ pos 0) × (unsigned_abs (int_min x y) ≤ 2 ^ 52)
smaller_direct x y h k l = (omega (arith, ints, clamps), omega (arith, ints, clamps))

smaller_direct_other : (x y : ℤ) → y ≤ℤ pos 0 → unsigned_abs x ≤ 2 ^ 52 → unsigned_abs y ≤ 2 ^ 52 → (int_min x y ≤ℤ pos 0) × (unsigned_abs (int_min x y) ≤ 2 ^ 52)
smaller_direct_other x y h k l = (omega (arith, ints, clamps), omega (arith, ints, clamps))

both_timed : (s t : Soft) → IsTimed s.tc.mid s.dr.mid → IsTimed t.tc.mid t.dr.mid → IsTimed (mean s.tc t.tc).mid (mean s.dr t.dr).mid
both_timed s t a b = record {
  some_time = mean-least s.tc.mid t.tc.mid (pos (2 ^ 20)) a.some_time b.some_time;
  time = mean-most s.tc.mid t.tc.mid (pos (2 ^ 42)) a.time b.time;
  some_ratio = mean-least s.dr.mid t.dr.mid (pos (2 ^ 20)) a.some_ratio b.some_ratio;
  ratio = mean-most s.dr.mid t.dr.mid (pos (2 ^ 42)) a.ratio b.ratio;
}

one_direct : (s t : Soft) → IsSoft s → IsSoft t → are_timed s t ≡ false → IsDirect (smaller s.tc t.tc).mid (smaller s.dr t.dr).mid
one_direct s t h k e =
    elim (and_cases (has_positive_form s) (has_positive_form t) e) [
      | inl p ↦ (
          let d = other_form s h p in
          let x = smaller_direct s.tc.mid t.tc.mid d.stiffness d.stiff (small_tc t k) in
          let y = smaller_direct s.dr.mid t.dr.mid d.damping d.damped (small_dr t k) in
          record { stiffness = x.0; stiff = x.1; damping = y.0; damped = y.1 })
      | inr p ↦ (
          let d = other_form t k p in
          let x = smaller_direct_other s.tc.mid t.tc.mid d.stiffness (small_tc s h) d.stiff in
          let y = smaller_direct_other s.dr.mid t.dr.mid d.damping (small_dr s h) d.damped in
          record { stiffness = x.0; stiff = x.1; damping = y.0; damped = y.1 })
    ]

mixed_form : (s t : Soft) (b : Bool) → IsSoft s → IsSoft t → are_timed s t ≡ b
    → (positive (mixed_reference b s.tc t.tc).mid (mixed_reference b s.dr t.dr).mid || direct (mixed_reference b s.tc t.tc).mid (mixed_reference b s.dr t.dr).mid) ≡ true
mixed_form s t true h k e =
    let both = and_parts (has_positive_form s) (has_positive_form t) e in
    from_timed (mean s.tc t.tc).mid (mean s.dr t.dr).mid (both_timed s t (timed_of s.tc.mid s.dr.mid both.0) (timed_of t.tc.mid t.dr.mid both.1))
mixed_form s t false h k e = from_direct (smaller s.tc t.tc).mid (smaller s.dr t.dr).mid (one_direct s t h k e)

mean_impedance : (x y : Number (Unit {0}) 32) → IsImpedance x → IsImpedance y → IsImpedance (mean x y)
mean_impedance x y h k = record {
  least = mean-least x.mid y.mid (pos 429497) h.least k.least;
  most = mean-most x.mid y.mid (pos 4294537799) h.most k.most;
}

pub mixed_soft : (s t : Soft) → IsSoft s → IsSoft t → IsSoft (mixed s t)
mixed_soft s t h k = record {
  reference = mixed_form s t (are_timed s t) h k refl;
  dmin = mean_impedance s.dmin t.dmin h.dmin k.dmin;
  dmax = mean_impedance s.dmax t.dmax h.dmax k.dmax;
  midpoint = mean_impedance s.mid t.mid h.midpoint k.midpoint;
  some_width = mean-least s.width.mid t.width.mid (pos 1) h.some_width k.some_width;
  width = mean-most s.width.mid t.width.mid (pos (2 ^ 42)) h.width k.width;
  some_power = some (s.power + t.power) (omega (arith, h.some_power, k.some_power));
  power = few (s.power + t.power) (omega (arith, h.power, k.power));
}
  where
    some : (n : ℕ) → 2 ≤ n → 1 ≤ n / 2
    some n p = omega arith

    few : (n : ℕ) → n ≤ 10 → n / 2 ≤ 5
    few n p = omega arith
